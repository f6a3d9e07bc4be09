-- What uses of a program's words are to become, also of the programs for which its closed one stands, and so the code of a linked image has direct phrases in place.
use Rattle.std.proofs.Common.{◌≡◌, ◌<◌, ◌≤◌, ◌+◌, ◌++◌, ℕ, List, [], ◌∷◌, Some, None, Result, Ok, Err, IfOk, length, get_or, take, true, false, refl, ap, sym, subst, ◌∙◌}
use Rattle.std.proofs.lemmas.List.{take_all, take_more}
use Rattle.std.proofs.lemmas.Slice.Zip.{all_zipped_more, AllZip-left}
use Rattle.std.specs.Prelude.{slice_get, MatchOption, IsSomeAnd, codes}
use Rattle.std.specs.List.{AllZip}
use Rattle.std.specs.declared.option.Option.{Option}
use Rattle.fac_base.specs.declared.memory.Memory.{Memory}
use Rattle.fac_base.specs.declared.name.Name.{Name}
use Rattle.fac_lang.specs.declared.phrase.Template.{Template}
use Rattle.fac_lang.specs.declared.program.Program.{Program}
use Rattle.fac_lang.specs.declared.program.WordDef.{WordDef}
use Rattle.fac_lang.specs.declared.program.Sort.{Sort}
use Rattle.fac_locals.specs.Closed.{Closes, ClosesSort}
use Rattle.fac_locals.specs.declared.closing.Closed.{Closed}
use Rattle.fac_locals.proofs.Lookups.{word_closed}
use Rattle.fac_code.specs.declared.image.Image.{Image}
use Rattle.fac_carry.specs.Direct.{IsKernelWord, IsLoop, is_loop, IsWhile, is_while, is_until, DirectIsInPlace}
use Rattle.fac_emit.specs.CarriedPrograms.{StandsForEach}
use Rattle.fac_expand.specs.DirectInPlace.{takes_one, takes_two, UsesAre, KeepsDirect}
use Rattle.fac_expand.specs.declared.pieces.Extent.{Extent}
use Rattle.fac_expand.specs.declared.pieces.Extent.TheVariants.{All as all_code}
use Rattle.fac_expand.specs.declared.plan.Use.{Use}
use Rattle.fac_expand.specs.declared.plan.Use.TheVariants.{Called, Loop, While, Until}
use Rattle.fac_tool.specs.inner.Stops.{StandsForSafe}
use Rattle.fac_tool.specs.inner.Uses.{IsOfKernel, SuitsUse}

-- one use more
pub one_use_more :
    (ds : List WordDef) (i : ℕ) (us now : List Use) (d : WordDef) (u : Use) →
    i < length ds → d ≡ get_or ds i d → SuitsUse d u → now ≡ us ++ u ∷ [] → AllZip SuitsUse (take i ds) us → AllZip SuitsUse (take (i + 1) ds) now
one_use_more ds i us now d u below is suits added so_far =
    let more : take (i + 1) ds ≡ take i ds ++ d ∷ [] = take_more ds i d below ∙ ap (λ (x : WordDef). take i ds ++ x ∷ []) (sym is) in
    let zipped = all_zipped_more SuitsUse (take i ds) us d u so_far suits in
    subst (λ (xs : List WordDef). AllZip SuitsUse xs now) (sym more) (subst (λ (vs : List Use). AllZip SuitsUse (take i ds ++ d ∷ []) vs) (sym added) zipped)

-- the use of a word that is there
record HasUse (us : List Use) (w : ℕ) (d : WordDef) : Type 0 where
  own : Use
  at : slice_get us w ≡ Some own
  suits : SuitsUse d own

use_there : (us : List Use) (w : ℕ) (d : WordDef) (o : Option Use) → slice_get us w ≡ o → IsSomeAnd o (SuitsUse d) → HasUse us w d
use_there us w d None e none = absurd none
use_there us w d (Some u) e suits = record { own = u; at = e; suits = suits }

same_use : (o : Option Use) (u v : Use) → o ≡ Some u → o ≡ Some v → u ≡ v
same_use o u v e f = let both : Some u ≡ Some v = sym e ∙ f in cc

module _ (P : Program) (us : List Use) (each : (w : ℕ) (d : WordDef) → slice_get P.words w ≡ Some d → HasUse us w d) where
  loop_use : (w : ℕ) → IsLoop P w → takes_one (slice_get us w) ≡ true
  loop_use w (is_loop k) = let u = each w k.definition k.there in ap takes_one u.at ∙ u.suits.loops k.is_inline (k.vocab_is, k.name_is)

  while_use : (w : ℕ) → IsWhile P w → takes_two (slice_get us w) ≡ true
  while_use w (is_while k) = let u = each w k.definition k.there in ap takes_two u.at ∙ u.suits.whiles k.is_inline (k.vocab_is, k.name_is)
  while_use w (is_until k) = let u = each w k.definition k.there in ap takes_two u.at ∙ u.suits.untils k.is_inline (k.vocab_is, k.name_is)

  uses_are : UsesAre P us
  uses_are = record {
    called = λ w d there plain. let u = each w d there in u.at ∙ ap Some (u.suits.called plain);
    not_inline = λ w d there is. let u = each w d there in u.suits.not_inline (same_use (slice_get us w) u.own Called u.at is);
    loops = loop_use;
    whiles = while_use;
  }

-- all of them
pub all_uses : (P : Program) (ds : List WordDef) (i : ℕ) (us : List Use) → ds ≡ P.words → length ds ≤ i → AllZip SuitsUse (take i ds) us → UsesAre P us
all_uses P ds i us same all so_far =
    let whole : take i ds ≡ P.words = take_all i ds all ∙ same in
    let zipped = subst (λ (xs : List WordDef). AllZip SuitsUse xs us) whole so_far in
    uses_are P us
    (λ w d there.
    let found = subst (λ (o : Option WordDef). MatchOption o (Unit {0}) (λ x. IsSomeAnd (slice_get us w) (SuitsUse x))) there (AllZip-left SuitsUse P.words us zipped w) in
    use_there us w d (slice_get us w) refl found)

-- the words of a closed program and of one for which it stands are alike
module _ (P C : Program) (templates : List Template) (closes : Closes P C templates) where
  kernel_word_closed : (name : List ℕ) (w : ℕ) → IsKernelWord P name w → IsKernelWord C name w
  kernel_word_closed name w k =
      let found = word_closed P C templates closes w k.definition k.there in
      let sort = subst (λ (s : Sort). ClosesSort P w s found.closed.sort) k.sort_is found.closes.sort in
      record {
        definition = found.closed;
        there = found.at;
        vocab_is = ap (λ (n : Name). n.vocab) found.closes.name ∙ k.vocab_is;
        name_is = ap (λ (n : Name). n.name) found.closes.name ∙ k.name_is;
        is_inline = found.closes.inline ∙ k.is_inline;
        phrase = sort.0;
        sort_is = sort.1;
      }

  loop_closed : (w : ℕ) → IsLoop P w → IsLoop C w
  loop_closed w (is_loop k) = is_loop (kernel_word_closed (codes "loop") w k)

  while_closed : (w : ℕ) → IsWhile P w → IsWhile C w
  while_closed w (is_while k) = is_while (kernel_word_closed (codes "while") w k)
  while_closed w (is_until k) = is_until (kernel_word_closed (codes "until") w k)

  uses_open : (us : List Use) → UsesAre C us → UsesAre P us
  uses_open us uses = record {
    called = λ w d there plain. let found = word_closed P C templates closes w d there in uses.called w found.closed found.at (found.closes.inline ∙ plain);
    not_inline = λ w d there is. let found = word_closed P C templates closes w d there in sym found.closes.inline ∙ uses.not_inline w found.closed found.at is;
    loops = λ w l. uses.loops w (loop_closed w l);
    whiles = λ w l. uses.whiles w (while_closed w l);
  }

pub if_direct :
    (closed : Closed) (plain : Image) (us given : List Use) (extent : Extent) (r : Result Image Memory) → given ≡ us → StandsForEach closed plain → UsesAre closed.program us →
    (extent ≡ all_code → IfOk r (KeepsDirect closed.program.top plain given)) → extent ≡ all_code → IfOk r (λ image. (P : Program) → StandsForSafe closed P → DirectIsInPlace P image)
if_direct closed plain us given extent (Ok image) same stand uses direct all =
    let here = subst (UsesAre closed.program) (sym same) uses in
    λ P stands. direct all P (sym stands.closes.top) (stand P stands.closes stands.whole) (uses_open P closed.program closed.templates stands.closes given here)
if_direct closed plain us given extent (Err e) same stand uses direct all = tt

-- what each use suits
two_names : {A : Type 0} (d : WordDef) (xs ys : List ℕ) → IsOfKernel d xs → IsOfKernel d ys → (xs ≡ ys → A) → A
two_names d xs ys one other go = go (sym one.1 ∙ other.1)

pub suits_call : (d : WordDef) → d.inline ≡ false → SuitsUse d Called
suits_call d plain = record { called = λ e. refl; not_inline = λ e. plain; loops = λ e k. absurd (let no : true ≡ false = sym e ∙ plain in cc); whiles = λ e k. absurd (let no : true ≡ false = sym e ∙ plain in cc); untils = λ e k. absurd (let no : true ≡ false = sym e ∙ plain in cc) }

not_call : {A : Type 0} (d : WordDef) → d.inline ≡ true → d.inline ≡ false → A
not_call d e f = absurd (let no : true ≡ false = sym e ∙ f in cc)

pub suits_loop : (d : WordDef) → d.inline ≡ true → IsOfKernel d (codes "loop") → SuitsUse d Loop
suits_loop d inline is = record {
  called = λ e. not_call d inline e;
  not_inline = λ e. absurd (cc);
  loops = λ e k. refl;
  whiles = λ e k. two_names d (codes "loop") (codes "while") is k (λ same. absurd (cc));
  untils = λ e k. two_names d (codes "loop") (codes "until") is k (λ same. absurd (cc));
}

pub suits_while : (d : WordDef) → d.inline ≡ true → IsOfKernel d (codes "while") → SuitsUse d While
suits_while d inline is = record {
  called = λ e. not_call d inline e;
  not_inline = λ e. absurd (cc);
  loops = λ e k. two_names d (codes "while") (codes "loop") is k (λ same. absurd (cc));
  whiles = λ e k. refl;
  untils = λ e k. refl;
}

pub suits_until : (d : WordDef) → d.inline ≡ true → IsOfKernel d (codes "until") → SuitsUse d Until
suits_until d inline is = record {
  called = λ e. not_call d inline e;
  not_inline = λ e. absurd (cc);
  loops = λ e k. two_names d (codes "until") (codes "loop") is k (λ same. absurd (cc));
  whiles = λ e k. refl;
  untils = λ e k. refl;
}

-- and another one, which is none of the three
pub suits_other : (d : WordDef) (u : Use) → d.inline ≡ true → (u ≡ Called → ⊥) → (IsOfKernel d (codes "loop") → ⊥) → (IsOfKernel d (codes "while") → ⊥) → (IsOfKernel d (codes "until") → ⊥) → SuitsUse d u
suits_other d u inline other one two three = record {
  called = λ e. not_call d inline e;
  not_inline = λ e. absurd (other e);
  loops = λ e k. absurd (one k);
  whiles = λ e k. absurd (two k);
  untils = λ e k. absurd (three k);
}
