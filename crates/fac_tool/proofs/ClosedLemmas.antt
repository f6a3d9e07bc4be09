-- What a closed program keeps of the one for which it stands, and the checker's refusals both ways.
use Rattle.std.proofs.Common.{◌≡◌, ℕ, zero, suc, List, [], ◌∷◌, Result, Ok, Err, IfOk, refl, ap, sym, subst, ◌∙◌, ◌<◌}
use Rattle.std.proofs.lemmas.Option.{slice_get_within, slice_get-get_or}
use Rattle.std.specs.Prelude.{◌+◌, None, Some, length, map, slice_get}
use Rattle.std.specs.declared.option.Option.{Option}
use Rattle.fac_base.specs.declared.memory.Memory.{Memory}
use Rattle.fac_lang.specs.declared.phrase.Template.{Template}
use Rattle.fac_base.specs.declared.name.Name.{Name}
use Rattle.fac_lang.specs.declared.program.Program.{Program}
use Rattle.fac_lang.specs.declared.program.Sort.{Sort}
use Rattle.fac_lang.specs.declared.program.Sort.TheVariants as sort
use Rattle.fac_lang.specs.declared.program.WordDef.{WordDef}
use Rattle.fac_lang.specs.Meaning.{start}
use Rattle.fac_lang.specs.Phrases.{held, Value, of_phrase}
use Rattle.fac_locals.specs.Frames.{template_phrase}
use Rattle.fac_locals.specs.Closed.{Closes, CloseWords, ClosesSort}
use Rattle.fac_locals.specs.declared.closing.Closed.{Closed}
use Rattle.fac_check.specs.CallableEffects.{callable_height}
use Rattle.fac_base.specs.declared.height.Height.{Height}
use Rattle.fac_check.specs.TemplateEffects.{AreEffects}
use Rattle.fac_store.specs.CallableHeights.{height_there}
use Rattle.fac_emit.specs.Heights.{HasHeights}
use Rattle.fac_check.specs.Checks.{IsKept}
use Rattle.fac_check.specs.Judged.{refusal_seen}
use Rattle.fac_check.specs.declared.refusal.Refusal.{Refusal}
use Rattle.fac_check.specs.Promises.{IsSafe, SafeAreNotStuck}
use Rattle.fac_code.specs.declared.image.Image.{Image}
use Rattle.fac_carry.specs.Carries.{Carries}
use Rattle.fac_carry.proofs.CarriedCode.{carries_by}
use Rattle.fac_emit.specs.CarriedPrograms.{AgreesEach, StandsForEach}
use Rattle.fac_expand.specs.Expands.{Expands}
use Rattle.fac_expand.proofs.ExpandedTables.{agrees_too}
use Rattle.fac_notes.specs.WordNames.{bare_word, method_name, name_as, name_or}
use Rattle.fac_notes.specs.Told.{refusal_of}
use Rattle.fac_tool.specs.inner.ImageSteps.{AreEffectsIfAsked}
use Rattle.fac_tool.specs.inner.Stops.{SameNames, Carried, StandsFor, StandsForSafe}

-- each word of a closed program is defined under the name of the word for which it stands
bare_at : (P : Program) (n w : ℕ) (ds cs : List WordDef) → CloseWords P n ds cs → bare_word (slice_get cs w) ≡ bare_word (slice_get ds w)
bare_at P n w [] cs c = ap (λ (xs : List WordDef). bare_word (slice_get xs w)) c
bare_at P n zero (d ∷ ds) cs c = ap (λ (xs : List WordDef). bare_word (slice_get xs 0)) c.2 ∙ ap (λ (x : Name). x.name) c.3.name
bare_at P n (suc w) (d ∷ ds) cs c = ap (λ (xs : List WordDef). bare_word (slice_get xs (suc w))) c.2 ∙ bare_at P (suc n) w ds c.1 c.4

-- a name without a vocabulary
abbrev without_vocabulary : List ℕ → Name
without_vocabulary name = record { vocab = []; name = name }

-- so a method is named by the same class and generic
method_same : (P C : Program) (templates : List Template) (c g : ℕ) → Closes P C templates → method_name C c g ≡ method_name P c g
method_same P C templates c g closes = rw (closes.classes, bare_at P 0 g P.words C.words closes.words) refl

module _ (P C : Program) (same : (c g : ℕ) → method_name C c g ≡ method_name P c g) where
  -- what a word is decides its name, also for the closed one
  sort_same : (w : ℕ) (full : Name) (s r : Sort) → ClosesSort P w s r → name_as C full r ≡ name_as P full s
  sort_same w full (sort.Prim k) r h = ap (name_as C full) h
  sort_same w full (sort.Core k) r h = ap (name_as C full) h
  sort_same w full (sort.Body t) r h = ap (name_as C full) h.1
  sort_same w full (sort.Past t) r h = ap (name_as C full) h.1
  sort_same w full sort.Itself r h = ap (name_as C full) h
  sort_same w full (sort.Class c) r h = ap (name_as C full) h
  sort_same w full (sort.Isa c) r h = ap (name_as C full) h
  sort_same w full (sort.Getter s) r h = ap (name_as C full) h
  sort_same w full (sort.Setter s) r h = ap (name_as C full) h
  sort_same w full (sort.Putter s) r h = ap (name_as C full) h
  sort_same w full sort.Generic r h = ap (name_as C full) h
  sort_same w full (sort.Method c g t) r h = ap (name_as C full) h.1 ∙ ap without_vocabulary (same c g)

  named_at : (n w k : ℕ) (ds cs : List WordDef) → CloseWords P n ds cs → name_or C k (slice_get cs w) ≡ name_or P k (slice_get ds w)
  named_at n w k [] cs c = ap (λ (xs : List WordDef). name_or C k (slice_get xs w)) c
  named_at n zero k (d ∷ ds) cs c =
      ap (λ (xs : List WordDef). name_or C k (slice_get xs 0)) c.2 ∙ ap (λ (full : Name). name_as C full c.0.sort) c.3.name ∙ sort_same n d.name d.sort c.0.sort c.3.sort
  named_at n (suc w) k (d ∷ ds) cs c = ap (λ (xs : List WordDef). name_or C k (slice_get xs (suc w))) c.2 ∙ named_at (suc n) w k ds c.1 c.4

pub same_names : (P C : Program) (templates : List Template) → Closes P C templates → SameNames P C
same_names P C templates closes w = named_at P C (λ c g. method_same P C templates c g closes) 0 w w P.words C.words closes.words

-- a refusal comes back
pub refusal_back : (r : Refusal) → refusal_of (refusal_seen r) ≡ r
refusal_back r = refl

-- an accepted program is safe
pub safe_one : (closed : Closed) (P : Program) → IsKept closed → closed.start ≡ 0 → StandsFor closed P → StandsForSafe closed P
safe_one closed P kept start stands = record { closes = stands.closes; whole = stands.whole; safe = subst (λ count. IsSafe P count) start (kept P stands.closes stands.whole); start = start }

-- so its image carries it with the checker's test of effects, and it isn't stuck
carried_by : SafeAreNotStuck → (P : Program) (M : Image) (count : ℕ) → IsSafe P 0 → count ≡ 0 → Carries P (callable_height P) count M → Carried P M
carried_by never P M count safe none carries = record {
  carries = subst (λ k. Carries P (callable_height P) k M) none carries;
  not_stuck = λ input n. never P 0 safe n (start P input) refl (safe.begins input);
}

-- the effects of a closed program's templates are those of its callables
pub effects_there :
    (closed : Closed) (heights : List (Option Height)) (P : Program) → AreEffects closed heights → StandsForSafe closed P → (q : ℕ) (t : Template) (vs : List Value) → slice_get closed.templates q ≡ Some t → length vs ≡ length t.captures + t.holes →
    callable_height P (of_phrase (template_phrase P q (map held vs))) ≡ height_there (slice_get heights q)
effects_there closed heights P effects stands q t vs found count =
    let there = slice_get-get_or heights q None (subst (λ n. q < n) (sym effects.count) (slice_get_within closed.templates q t found)) in
    sym (effects.each q _ there P stands.closes stands.whole t vs found count) ∙ sym (ap height_there there)

pub has_heights : (closed : Closed) (heights : List (Option Height)) (P : Program) → AreEffectsIfAsked closed heights → StandsForSafe closed P → HasHeights P closed heights (callable_height P)
has_heights closed heights P effects stands = record {
  literal = λ asked. effects_there closed heights P (effects asked) stands;
  curried = λ v c. refl;
  composed = λ c d. refl;
}

-- the expanded image of one that agrees with the program, and whose code stands for it
expanded_carried :
    SafeAreNotStuck → (closed : Closed) (heights : List (Option Height)) (plain image : Image) → AreEffectsIfAsked closed heights → AgreesEach closed heights plain → StandsForEach closed plain → Expands closed.program.top plain image →
    (P : Program) → StandsForSafe closed P → Carried P image
expanded_carried never closed heights plain image effects agree stand expands P stands =
    let top = closed.program.top in
    let agrees = agrees_too top P (callable_height P) plain image (agree P (callable_height P) stands.closes stands.whole (has_heights closed heights P effects stands)) expands in
    let code = expands.code P (sym stands.closes.top) (stand P stands.closes stands.whole) in
    carried_by never P image closed.start stands.safe stands.start (carries_by P (callable_height P) closed.start image agrees code)

pub if_carried :
    SafeAreNotStuck → (closed : Closed) (heights : List (Option Height)) (plain : Image) (r : Result Image Memory) → AreEffectsIfAsked closed heights → AgreesEach closed heights plain → StandsForEach closed plain → IfOk r (Expands closed.program.top plain) →
    IfOk r (λ image. (P : Program) → StandsForSafe closed P → Carried P image)
if_carried never closed heights plain (Ok image) effects agree stand expands = expanded_carried never closed heights plain image effects agree stand expands
if_carried never closed heights plain (Err e) effects agree stand expands = tt
