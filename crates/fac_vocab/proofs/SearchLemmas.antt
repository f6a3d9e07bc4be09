-- What a search finds, by its parts.
use Rattle.std.proofs.Common.{◌≡◌, ℕ, List, [], ◌∷◌, take, Option, Some, None, refl, sym, ap, ◌∙◌}
use Rattle.fac_vocab.specs.declared.least.Least.{Least}
use Rattle.fac_vocab.specs.Scopes.{Entry, Scope, companion, word_held, or_else, latest, all_used, Found, the, only_one, found}
use Rattle.fac_vocab.specs.ScopeCalls.{answer_of, names_between}
use Rattle.fac_vocab.specs.inner.Rows.{entries_at, kept_numbers, bares, LeastUsed}
use Rattle.fac_vocab.proofs.UsedLemmas.{first_two_tell}

-- the word of a name that isn't left to the used vocabularies
abbrev pub near : Scope → List ℕ → Option ℕ
near s name = or_else (word_held s.table s.current name) (or_else (word_held s.table (companion s.current) name) (latest s.table name s.brought))

abbrev near_or : Option ℕ → Found → Found
near_or near rest = elim near [ Some w ↦ the w | None ↦ rest ]

pub found_near : (s : Scope) (name : List ℕ) (w : ℕ) → Some w ≡ near s name → found s name ≡ the w
unfolding found
found_near s name w e = ap (λ (o : Option ℕ). near_or o (only_one (all_used s.table name s.used))) (sym e)

-- what an answer tells doesn't change with what is defined
answer_bare : (es : List Entry) → answer_of (only_one (bares es)) ≡ answer_of (only_one es)
answer_bare [] = refl
answer_bare (e ∷ []) = refl
answer_bare (e ∷ f ∷ es) = refl

names_bare : (es : List Entry) → names_between (only_one (bares es)) ≡ names_between (only_one es)
names_bare [] = refl
names_bare (e ∷ []) = refl
names_bare (e ∷ f ∷ es) = refl

found_rest : (s : Scope) (name : List ℕ) → None ≡ near s name → found s name ≡ only_one (take 2 (all_used s.table name s.used))
unfolding found
found_rest s name e = ap (λ (o : Option ℕ). near_or o (only_one (all_used s.table name s.used))) (sym e) ∙ sym (first_two_tell (all_used s.table name s.used))

pub answer_used : (s : Scope) (name : List ℕ) (entries : List Entry) (least : Least) → None ≡ near s name → entries ≡ s.table → LeastUsed s.table name s.used least → answer_of (found s name) ≡ answer_of (only_one (entries_at entries (kept_numbers least)))
answer_used s name entries least e all h =
    ap answer_of (found_rest s name e)
    ∙ sym (answer_bare (take 2 (all_used s.table name s.used)))
    ∙ ap (λ (es : List Entry). answer_of (only_one es)) (sym h)
    ∙ answer_bare (entries_at s.table (kept_numbers least))
    ∙ ap (λ (t : List Entry). answer_of (only_one (entries_at t (kept_numbers least)))) (sym all)

pub names_used : (s : Scope) (name : List ℕ) (entries : List Entry) (least : Least) → None ≡ near s name → entries ≡ s.table → LeastUsed s.table name s.used least → names_between (found s name) ≡ names_between (only_one (entries_at entries (kept_numbers least)))
names_used s name entries least e all h =
    ap names_between (found_rest s name e)
    ∙ sym (names_bare (take 2 (all_used s.table name s.used)))
    ∙ ap (λ (es : List Entry). names_between (only_one es)) (sym h)
    ∙ names_bare (entries_at s.table (kept_numbers least))
    ∙ ap (λ (t : List Entry). names_between (only_one (entries_at t (kept_numbers least)))) (sym all)
