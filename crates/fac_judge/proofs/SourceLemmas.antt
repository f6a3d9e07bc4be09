-- Each text comes to something, and to one thing.
use Rattle.std.proofs.Common.{◌≡◌, ℕ, List, Result, Ok, Err, refl, sym, ap, ◌∙◌, subst, ◌⊎◌, inl, inr}
use Rattle.fac_source.specs.declared.token.Token.{Token}
use Rattle.fac_source.specs.declared.tree.Form.{Form}
use Rattle.fac_token.specs.declared.fault.TokenFault.{TokenFault}
use Rattle.fac_token.specs.declared.fault.TokenFault.TheVariants as token
use Rattle.fac_token.specs.Tokens.{Tokenizes}
use Rattle.fac_token.specs.ReadingLaws.{IsNotMemory, EveryFileAnswers, OneAnswer}
use Rattle.fac_parse.specs.declared.reader.Why.{Why}
use Rattle.fac_parse.specs.declared.reader.Why.TheVariants.{End, Other}
use Rattle.fac_parse.specs.Trees.{Reads, Misses, OneTree, TreeOrNone, OnePlace, SomePlace}
use Rattle.fac_notes.specs.declared.report.ByteFault.{ByteFault}
use Rattle.fac_notes.specs.declared.report.ByteFault.TheVariants as byte
use Rattle.fac_notes.specs.Sources.{Source, no_tokens, no_tree, tree}
use Rattle.fac_judge.specs.TextSources.{token_fault, IsParsedAs, IsReadAs}

abbrev Comes : ℕ → List ℕ → Type 0
Comes file text = (source : Source) × IsReadAs file text source

missed_once : OnePlace → (tokens : List Token) (at at' : ℕ) (why why' : Why) → Misses tokens at why → Misses tokens at' why' → no_tree at why ≡ no_tree at' why'
missed_once law tokens at at' why why' p q = let same = law tokens at at' why why' p q in ap (λ (n : ℕ). no_tree n why) same.0 ∙ ap (no_tree at') same.1

has_no_tree : (tokens : List Token) (at : ℕ) (why : Why) → Misses tokens at why → (forms : List Form) → Reads tokens forms → ⊥
has_no_tree tokens at End p = p.2.0.no_tree
has_no_tree tokens at Other p = p.2.0.no_tree

-- tokens are those of a tree, or of none
parsed_by : SomePlace → (tokens : List Token) → ((forms : List Form) × Reads tokens forms) ⊎ ((forms : List Form) → Reads tokens forms → ⊥) → (source : Source) × IsParsedAs tokens source
parsed_by place tokens (inl read) = (tree read.0, read.1)
parsed_by place tokens (inr none) = let p = place tokens none in (no_tree p.0 p.1, p.2)

parsed : SomePlace → TreeOrNone → (tokens : List Token) → (source : Source) × IsParsedAs tokens source
parsed place law tokens = parsed_by place tokens (law tokens)

of_parse : (file : ℕ) (text : List ℕ) (tokens : List Token) (source : Source) → Tokenizes file text (Ok tokens) → IsParsedAs tokens source → Comes file text
of_parse file text tokens (no_tokens at why) t h = absurd h
of_parse file text tokens (no_tree at why) t h = (no_tree at why, (tokens, t, h))
of_parse file text tokens (tree forms) t h = (tree forms, (tokens, t, h))

of_tokens : SomePlace → TreeOrNone → (file : ℕ) (text : List ℕ) (r : Result (List Token) TokenFault) → IsNotMemory r → Tokenizes file text r → Comes file text
of_tokens place law file text (Ok tokens) n h = let p = parsed place law tokens in of_parse file text tokens p.0 h p.1
of_tokens place law file text (Err (token.NotUtf8 at)) n h = (no_tokens at byte.NotUtf8, h)
of_tokens place law file text (Err (token.OpenString at)) n h = (no_tokens at byte.OpenString, h)
of_tokens place law file text (Err (token.BadEscape at)) n h = (no_tokens at byte.BadEscape, h)
of_tokens place law file text (Err (token.StuckQuote at)) n h = (no_tokens at byte.StuckQuote, h)
of_tokens place law file text (Err token.Memory) n h = absurd n

pub one_comes : EveryFileAnswers → SomePlace → TreeOrNone → (file : ℕ) (text : List ℕ) → Comes file text
one_comes law place one file text = let r = law file text in of_tokens place one file text r.0 r.1 r.2

-- a fault of tokens comes back
back : TokenFault → Source
back (token.NotUtf8 at) = no_tokens at byte.NotUtf8
back (token.OpenString at) = no_tokens at byte.OpenString
back (token.BadEscape at) = no_tokens at byte.BadEscape
back (token.StuckQuote at) = no_tokens at byte.StuckQuote
back token.Memory = no_tree 0 Other

comes_back : (at : ℕ) (why : ByteFault) → back (token_fault at why) ≡ no_tokens at why
unfolding back
comes_back at byte.NotUtf8 = refl
comes_back at byte.OpenString = refl
comes_back at byte.BadEscape = refl
comes_back at byte.StuckQuote = refl

back_if : Result (List Token) TokenFault → Source
back_if (Ok tokens) = no_tree 0 Other
back_if (Err fault) = back fault

same_fault : (at at' : ℕ) (why why' : ByteFault) (r t : Result (List Token) TokenFault) → r ≡ Err (token_fault at why) → t ≡ Err (token_fault at' why') → r ≡ t → no_tokens at why ≡ no_tokens at' why'
unfolding back_if
same_fault at at' why why' r t e d same = sym (comes_back at why) ∙ ap back_if (sym e ∙ same ∙ d) ∙ comes_back at' why'

not_memory : (at : ℕ) (why : ByteFault) → IsNotMemory (Err (token_fault at why))
not_memory at byte.NotUtf8 = tt
not_memory at byte.OpenString = tt
not_memory at byte.BadEscape = tt
not_memory at byte.StuckQuote = tt

abbrev has_tokens : List Token → Result (List Token) TokenFault
has_tokens tokens = Ok tokens

abbrev has_none : ℕ → ByteFault → Result (List Token) TokenFault
has_none at why = Err (token_fault at why)

pub one_text : OneAnswer → OnePlace → OneTree → (file : ℕ) (text : List ℕ) (one other : Source) → IsReadAs file text one → IsReadAs file text other → one ≡ other
one_text answer place tree_law file text (no_tokens at why) (no_tokens at' why') h k =
    same_fault at at' why why' (has_none at why) (has_none at' why') refl refl (answer file text (has_none at why) (has_none at' why') (not_memory at why) (not_memory at' why') h k)
one_text answer place tree_law file text (no_tokens at why) (no_tree at' why') h k =
    let same = answer file text (has_none at why) (has_tokens k.0) (not_memory at why) tt h k.1 in cc
one_text answer place tree_law file text (no_tokens at why) (tree forms) h k =
    let same = answer file text (has_none at why) (has_tokens k.0) (not_memory at why) tt h k.1 in cc
one_text answer place tree_law file text (no_tree at why) (no_tokens at' why') h k =
    let same = answer file text (has_tokens h.0) (has_none at' why') tt (not_memory at' why') h.1 k in cc
one_text answer place tree_law file text (no_tree at why) (no_tree at' why') h k =
    let same : has_tokens h.0 ≡ has_tokens k.0 = answer file text (has_tokens h.0) (has_tokens k.0) tt tt h.1 k.1 in
    let e : k.0 ≡ h.0 = cc in missed_once place h.0 at at' why why' h.2 (subst (λ (ts : List Token). Misses ts at' why') e k.2)
one_text answer place tree_law file text (no_tree at why) (tree forms) h k =
    let same : has_tokens h.0 ≡ has_tokens k.0 = answer file text (has_tokens h.0) (has_tokens k.0) tt tt h.1 k.1 in
    let e : k.0 ≡ h.0 = cc in absurd (has_no_tree h.0 at why h.2 forms (subst (λ (ts : List Token). Reads ts forms) e k.2))
one_text answer place tree_law file text (tree forms) (no_tokens at why) h k =
    let same = answer file text (has_tokens h.0) (has_none at why) tt (not_memory at why) h.1 k in cc
one_text answer place tree_law file text (tree forms) (no_tree at why) h k =
    let same : has_tokens h.0 ≡ has_tokens k.0 = answer file text (has_tokens h.0) (has_tokens k.0) tt tt h.1 k.1 in
    let e : h.0 ≡ k.0 = cc in absurd (has_no_tree k.0 at why k.2 forms (subst (λ (ts : List Token). Reads ts forms) e h.2))
one_text answer place tree_law file text (tree forms) (tree others) h k =
    let same : has_tokens h.0 ≡ has_tokens k.0 = answer file text (has_tokens h.0) (has_tokens k.0) tt tt h.1 k.1 in
    let e : h.0 ≡ k.0 = cc in ap tree (tree_law forms others h.2.fits k.2.fits (h.2.spelled ∙ e ∙ sym k.2.spelled))
