-- Every text comes to something, and to one thing; an accepted program is safe.
use Rattle.std.proofs.Common.{◌≡◌, ℕ, ◌+◌, List, [], ◌∷◌, ◌++◌, Some, None, Result, Ok, Err, refl, sym, ap, ◌∙◌, subst, IfSome, ◌⊎◌, inl, inr}
use Rattle.std.specs.declared.option.Option.{Option}
use Rattle.fac_lang.specs.declared.program.Program.{Program}
use Rattle.fac_source.specs.declared.token.Token.{Token}
use Rattle.fac_source.specs.declared.tree.Form.{Form}
use Rattle.fac_lang.specs.Whole.{IsWhole}
use Rattle.fac_token.specs.declared.fault.TokenFault.{TokenFault}
use Rattle.fac_token.specs.declared.fault.TokenFault.TheVariants as token
use Rattle.fac_token.specs.Tokens.{Tokenizes}
use Rattle.fac_token.specs.ReadingLaws.{IsNotMemory, EveryFileAnswers, OneAnswer}
use Rattle.fac_parse.specs.declared.reader.Why.TheVariants.{End, Other}
use Rattle.fac_source.specs.declared.refusal.NameFault.{NameFault}
use Rattle.fac_parse.specs.Trees.{IsWellFormed, AreWellFormed, Reads, Misses, OneTree, TreeOrNone, OnePlace, SomePlace}
use Rattle.fac_parse.specs.declared.reader.Why.{Why}
use Rattle.fac_names.specs.Resolution.{resolved, ResolvedAreWhole}
use Rattle.fac_check.specs.Verdicts.{verdict}
use Rattle.fac_check.specs.declared.refusal.Broken.{Broken}
use Rattle.fac_check.specs.Promises.{IsSafe, AcceptedAreSafe}
use Rattle.fac_prelude.specs.PreludeText.{prelude_text}
use Rattle.fac_notes.specs.declared.report.ByteFault.{ByteFault}
use Rattle.fac_notes.specs.declared.report.ByteFault.TheVariants as byte
use Rattle.fac_notes.specs.Sources.{Source, no_tokens, no_tree, tree}
use Rattle.fac_tool.specs.Answer.{Sources, no_tokens_in, no_tree_in, trees, together, come_to, if_accepted, accepted_of, accepted}
use Rattle.fac_tool.specs.Sources.{token_fault, IsParsedAs, IsReadAs, AreReadAs, AreReadWithPrelude}
use Rattle.fac_tool.specs.inner.StepEnds.{AreTrees}

abbrev Comes : ℕ → List ℕ → Type 0
Comes file text = (source : Source) × IsReadAs file text source

missed_once : OnePlace → (tokens : List Token) (at at' : ℕ) (why why' : Why) → Misses tokens at why → Misses tokens at' why' → no_tree at why ≡ no_tree at' why'
missed_once law tokens at at' why why' p q = let same = law tokens at at' why why' p q in ap (λ (n : ℕ). no_tree n why) same.0 ∙ ap (no_tree at') same.1

has_no_tree : (tokens : List Token) (at : ℕ) (why : Why) → Misses tokens at why → (forms : List Form) → Reads tokens forms → ⊥
has_no_tree tokens at End p = p.2.0.no_tree
has_no_tree tokens at Other p = p.2.0.no_tree

-- tokens are those of a tree, or of none
parsed_by : SomePlace → (tokens : List Token) → ((forms : List Form) × Reads tokens forms) ⊎ ((forms : List Form) → Reads tokens forms → ⊥) → (source : Source) × IsParsedAs tokens source
parsed_by place tokens (inl read) = (tree read.0, read.1)
parsed_by place tokens (inr none) = let p = place tokens none in (no_tree p.0 p.1, p.2)

parsed : SomePlace → TreeOrNone → (tokens : List Token) → (source : Source) × IsParsedAs tokens source
parsed place law tokens = parsed_by place tokens (law tokens)

of_parse : (file : ℕ) (text : List ℕ) (tokens : List Token) (source : Source) → Tokenizes file text (Ok tokens) → IsParsedAs tokens source → Comes file text
of_parse file text tokens (no_tokens at why) t h = absurd h
of_parse file text tokens (no_tree at why) t h = (no_tree at why, (tokens, t, h))
of_parse file text tokens (tree forms) t h = (tree forms, (tokens, t, h))

of_tokens : SomePlace → TreeOrNone → (file : ℕ) (text : List ℕ) (r : Result (List Token) TokenFault) → IsNotMemory r → Tokenizes file text r → Comes file text
of_tokens place law file text (Ok tokens) n h = let p = parsed place law tokens in of_parse file text tokens p.0 h p.1
of_tokens place law file text (Err (token.NotUtf8 at)) n h = (no_tokens at byte.NotUtf8, h)
of_tokens place law file text (Err (token.OpenString at)) n h = (no_tokens at byte.OpenString, h)
of_tokens place law file text (Err (token.BadEscape at)) n h = (no_tokens at byte.BadEscape, h)
of_tokens place law file text (Err (token.StuckQuote at)) n h = (no_tokens at byte.StuckQuote, h)
of_tokens place law file text (Err token.Memory) n h = absurd n

one_comes : EveryFileAnswers → SomePlace → TreeOrNone → (file : ℕ) (text : List ℕ) → Comes file text
one_comes law place one file text = let r = law file text in of_tokens place one file text r.0 r.1 r.2

pub every_source : EveryFileAnswers → SomePlace → TreeOrNone → (file : ℕ) (texts : List (List ℕ)) → (sources : List Source) × AreReadAs file texts sources
every_source law place one file [] = ([], tt)
every_source law place one file (text ∷ texts) =
    let first = one_comes law place one file text in
    let rest = every_source law place one (file + 1) texts in
    (first.0 ∷ rest.0, (first.1, rest.1))

-- a fault of tokens comes back
back : TokenFault → Source
back (token.NotUtf8 at) = no_tokens at byte.NotUtf8
back (token.OpenString at) = no_tokens at byte.OpenString
back (token.BadEscape at) = no_tokens at byte.BadEscape
back (token.StuckQuote at) = no_tokens at byte.StuckQuote
back token.Memory = no_tree 0 Other

comes_back : (at : ℕ) (why : ByteFault) → back (token_fault at why) ≡ no_tokens at why
unfolding back
comes_back at byte.NotUtf8 = refl
comes_back at byte.OpenString = refl
comes_back at byte.BadEscape = refl
comes_back at byte.StuckQuote = refl

back_if : Result (List Token) TokenFault → Source
back_if (Ok tokens) = no_tree 0 Other
back_if (Err fault) = back fault

same_fault : (at at' : ℕ) (why why' : ByteFault) (r t : Result (List Token) TokenFault) → r ≡ Err (token_fault at why) → t ≡ Err (token_fault at' why') → r ≡ t → no_tokens at why ≡ no_tokens at' why'
unfolding back_if
same_fault at at' why why' r t e d same = sym (comes_back at why) ∙ ap back_if (sym e ∙ same ∙ d) ∙ comes_back at' why'

not_memory : (at : ℕ) (why : ByteFault) → IsNotMemory (Err (token_fault at why))
not_memory at byte.NotUtf8 = tt
not_memory at byte.OpenString = tt
not_memory at byte.BadEscape = tt
not_memory at byte.StuckQuote = tt

abbrev has_tokens : List Token → Result (List Token) TokenFault
has_tokens tokens = Ok tokens

abbrev has_none : ℕ → ByteFault → Result (List Token) TokenFault
has_none at why = Err (token_fault at why)

one_text : OneAnswer → OnePlace → OneTree → (file : ℕ) (text : List ℕ) (one other : Source) → IsReadAs file text one → IsReadAs file text other → one ≡ other
one_text answer place tree_law file text (no_tokens at why) (no_tokens at' why') h k =
    same_fault at at' why why' (has_none at why) (has_none at' why') refl refl (answer file text (has_none at why) (has_none at' why') (not_memory at why) (not_memory at' why') h k)
one_text answer place tree_law file text (no_tokens at why) (no_tree at' why') h k =
    let same = answer file text (has_none at why) (has_tokens k.0) (not_memory at why) tt h k.1 in cc
one_text answer place tree_law file text (no_tokens at why) (tree forms) h k =
    let same = answer file text (has_none at why) (has_tokens k.0) (not_memory at why) tt h k.1 in cc
one_text answer place tree_law file text (no_tree at why) (no_tokens at' why') h k =
    let same = answer file text (has_tokens h.0) (has_none at' why') tt (not_memory at' why') h.1 k in cc
one_text answer place tree_law file text (no_tree at why) (no_tree at' why') h k =
    let same : has_tokens h.0 ≡ has_tokens k.0 = answer file text (has_tokens h.0) (has_tokens k.0) tt tt h.1 k.1 in
    let e : k.0 ≡ h.0 = cc in missed_once place h.0 at at' why why' h.2 (subst (λ (ts : List Token). Misses ts at' why') e k.2)
one_text answer place tree_law file text (no_tree at why) (tree forms) h k =
    let same : has_tokens h.0 ≡ has_tokens k.0 = answer file text (has_tokens h.0) (has_tokens k.0) tt tt h.1 k.1 in
    let e : k.0 ≡ h.0 = cc in absurd (has_no_tree h.0 at why h.2 forms (subst (λ (ts : List Token). Reads ts forms) e k.2))
one_text answer place tree_law file text (tree forms) (no_tokens at why) h k =
    let same = answer file text (has_tokens h.0) (has_none at why) tt (not_memory at why) h.1 k in cc
one_text answer place tree_law file text (tree forms) (no_tree at why) h k =
    let same : has_tokens h.0 ≡ has_tokens k.0 = answer file text (has_tokens h.0) (has_tokens k.0) tt tt h.1 k.1 in
    let e : h.0 ≡ k.0 = cc in absurd (has_no_tree k.0 at why k.2 forms (subst (λ (ts : List Token). Reads ts forms) e h.2))
one_text answer place tree_law file text (tree forms) (tree others) h k =
    let same : has_tokens h.0 ≡ has_tokens k.0 = answer file text (has_tokens h.0) (has_tokens k.0) tt tt h.1 k.1 in
    let e : h.0 ≡ k.0 = cc in ap tree (tree_law forms others h.2.fits k.2.fits (h.2.spelled ∙ e ∙ sym k.2.spelled))

pub one_source : OneAnswer → OnePlace → OneTree → (file : ℕ) (texts : List (List ℕ)) (one other : List Source) → AreReadAs file texts one → AreReadAs file texts other → one ≡ other
one_source answer place law file [] [] [] h k = refl
one_source answer place law file [] [] (b ∷ bs) h k = absurd k
one_source answer place law file [] (a ∷ as') other h k = absurd h
one_source answer place law file (text ∷ texts) [] other h k = absurd h
one_source answer place law file (text ∷ texts) (a ∷ as') [] h k = absurd k
one_source answer place law file (text ∷ texts) (a ∷ as') (b ∷ bs) h k =
    let first : a ≡ b = one_text answer place law file text a b h.0 k.0 in
    let rest : as' ≡ bs = one_source answer place law (file + 1) texts as' bs h.1 k.1 in
    cc

verdict_safe : AcceptedAreSafe → (P : Program) (v : Option (ℕ × Broken)) → IsWhole P → verdict P 0 ≡ v → IfSome (if_accepted P v) (λ Q. IsSafe Q 0)
verdict_safe law P (Some first) whole e = tt
verdict_safe law P None whole e = law P 0 whole e

resolved_safe : AcceptedAreSafe → ResolvedAreWhole → (files : List (List Form)) (r : Result Program NameFault) → AreWellFormed files → resolved files ≡ r → IfSome (accepted_of r) (λ Q. IsSafe Q 0)
resolved_safe law whole files (Ok P) fits e = verdict_safe law P (verdict P 0) (whole files P fits e) refl
resolved_safe law whole files (Err fault) fits e = tt

one_fits : (file : ℕ) (text : List ℕ) (forms : List Form) → IsReadAs file text (tree forms) → IsWellFormed forms
one_fits file text forms read = read.2.fits

one_more_fits : (before : List (List Form)) (forms : List Form) → AreWellFormed before → IsWellFormed forms → AreWellFormed (before ++ forms ∷ [])
one_more_fits [] forms fits one = (one, tt)
one_more_fits (b ∷ before) forms fits one = (fits.0, one_more_fits before forms fits.1 one)

-- all trees of what files come to are well-formed
fit : (files : List (List Form)) (before : List (List Form)) (file : ℕ) (texts : List (List ℕ)) (sources : List Source) → AreWellFormed before → AreReadAs file texts sources → together before file sources ≡ trees files → AreWellFormed files
fit files before file [] [] fits are e = let same : before ≡ files = cc in subst AreWellFormed same fits
fit files before file [] (s ∷ ss) fits are e = absurd are
fit files before file (text ∷ texts) [] fits are e = absurd are
fit files before file (text ∷ texts) (no_tokens at why ∷ ss) fits are e = absurd cc
fit files before file (text ∷ texts) (no_tree at why ∷ ss) fits are e = absurd cc
fit files before file (text ∷ texts) (tree forms ∷ ss) fits are e = fit files (before ++ forms ∷ []) (file + 1) texts ss (one_more_fits before forms fits (one_fits file text forms are.0)) are.1 e

pub trees_fit : (texts : List (List ℕ)) (files : List (List Form)) → AreTrees texts files → AreWellFormed files
trees_fit texts files h = fit files [] 0 (prelude_text ∷ texts) h.sources tt h.are_read h.come

safe_if : AcceptedAreSafe → ResolvedAreWhole → (s : Sources) → ((files : List (List Form)) → s ≡ trees files → AreWellFormed files) → IfSome (accepted s) (λ P. IsSafe P 0)
safe_if law whole (no_tokens_in file at why) fits = tt
safe_if law whole (no_tree_in file at why) fits = tt
safe_if law whole (trees files) fits = resolved_safe law whole files (resolved files) (fits files refl) refl

pub accepted_safe : AcceptedAreSafe → ResolvedAreWhole → (texts : List (List ℕ)) (sources : List Source) → AreReadWithPrelude texts sources → IfSome (accepted (come_to sources)) (λ P. IsSafe P 0)
accepted_safe law whole texts sources are = safe_if law whole (come_to sources) (λ files. fit files [] 0 (prelude_text ∷ texts) sources tt are)
