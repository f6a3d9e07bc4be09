-- The names that texts define, text by text.
use Rattle.std.proofs.Common.{◌≡◌, ◌<◌, ◌≤◌, ℕ, zero, suc, ◌+◌, List, [], ◌∷◌, ◌++◌, false, Result, Ok, Err, OnOk, IfOk, length, map, drop, drop-cons, get_or, refl, sym, subst, ap, ◌∙◌, arith, append_assoc}
use Rattle.std.specs.declared.option.Option.{Option}
use Rattle.std.proofs.lemmas.List.{append-nil}
use Rattle.fac_prelude.specs.PreludeText.{prelude_text}
use Rattle.fac_explain.specs.Names.{AreDefined, none, more, AddsDefined, names_behind, language_names}
use Rattle.fac_explain.specs.Nearness.{closest}
use Rattle.fac_explain.specs.Sentences.{meant}
use Rattle.fac_explainer.specs.Homes.{HasHomes}
use Rattle.fac_explainer.specs.Help.{AreNames, Means, HelpsBy, HelpsFind}
use Rattle.fac_explainer.specs.inner.Steps.{AddsAll}
use Rattle.fac_explainer.proofs.HomeLemmas.{none_left}

-- With the names of the texts from this number on behind them these are all.
abbrev pub SoFar : {A : Type 0} → (A → List ℕ) → List A → ℕ → List (List ℕ) → List (List ℕ) → Type 0
SoFar f texts i names now = (rest : List (List ℕ)) → AreDefined (map f (drop i texts)) rest → AddsAll (map f texts) names (now ++ rest)

-- one text more
pub one_more_text :
    {A : Type 0} (f : A → List ℕ) (texts : List A) (i : ℕ) (other : A) (names now next : List (List ℕ)) → i < length texts → SoFar f texts i names now → AddsDefined (f (get_or texts i other)) now next → SoFar f texts (i + 1) names next
one_more_text f texts i other names now next below so_far adds rest are =
    let here = f (get_or texts i other) in
    let behind = map f (drop (suc i) texts) in
    let around : map f (drop i texts) ≡ here ∷ behind = ap (map f) (drop-cons texts i other below) in
    let follows : i + 1 ≡ suc i = omega arith in
    let others : AreDefined behind rest = subst (λ (k : ℕ). AreDefined (map f (drop k texts)) rest) follows are in
    let own = names_behind here false adds.spots in
    let whole : AreDefined (map f (drop i texts)) (own ++ rest) = subst (λ (ts : List (List ℕ)). AreDefined ts (own ++ rest)) (sym around) (more here behind rest adds.spots adds.are others) in
    let same : now ++ (own ++ rest) ≡ next ++ rest = sym (append_assoc now own rest) ∙ ap (λ (ns : List (List ℕ)). ns ++ rest) (sym adds.is) in
    subst (λ (ns : List (List ℕ)). AddsAll (map f texts) names ns) same (so_far (own ++ rest) whole)

-- where none is left these are all
pub all_texts : {A : Type 0} (f : A → List ℕ) (texts : List A) (i : ℕ) (names now : List (List ℕ)) → length texts ≤ i → SoFar f texts i names now → AddsAll (map f texts) names now
all_texts f texts i names now past so_far =
    let last = so_far [] (subst (λ (ts : List _). AreDefined (map f ts) []) (sym (none_left texts i past)) none) in subst (λ (ns : List (List ℕ)). AddsAll (map f texts) names ns) (append-nil now) last

-- those of the language, then those of the prelude, then those of texts
pub all_names : (texts first second last : List (List ℕ)) (text : List ℕ) → first ≡ language_names → text ≡ prelude_text → AddsDefined text first second → AddsAll texts second last → AreNames texts last
all_names texts first second last text e same adds all =
    let own = names_behind text false adds.spots in
    let is : last ≡ language_names ++ (own ++ all.0) = all.2 ∙ ap (λ (ns : List (List ℕ)). ns ++ all.0) (adds.is ∙ ap (λ (ns : List (List ℕ)). ns ++ own) e) ∙ append_assoc language_names own all.0 in
    let defined : AreDefined (text ∷ texts) (own ++ all.0) = more text texts all.0 adds.spots adds.are all.1 in
    (own ++ all.0, subst (λ (t : List ℕ). AreDefined (t ∷ texts) (own ++ all.0)) same defined, is)

-- which of them was meant
pub means :
    {A E : Type 0} (r : Result A E) (texts names : List (List ℕ)) (name before out : List ℕ) (near : Option (List ℕ)) → AreNames texts names → near ≡ closest name names → before ≡ [] → OnOk r (out ≡ before ++ meant name near) →
    OnOk r (Means texts name out)
means (Ok x) texts names name before out near are e empty is = (names, are, is ∙ ap (λ (xs : List ℕ). xs ++ meant name near) empty ∙ ap (meant name) e)
means (Err x) texts names name before out near are e empty is = tt

-- with the vocabularies that hold a word of the name
pub finds : {E : Type 0} (r : Result (List ℕ) E) (texts homes : List (List ℕ)) (name : List ℕ) → HasHomes name homes → IfOk r (HelpsBy texts name homes) → IfOk r (HelpsFind texts name)
finds (Ok out) texts homes name has helps = (homes, has, helps)
finds (Err x) texts homes name has helps = tt
