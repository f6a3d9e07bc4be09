use Rattle.std.proofs.Common.{◌≡◌, ◌++◌, ◌∷◌, ◌∙◌, List, ℕ, ap, sym}
use Rattle.fac_vocab.proofs.TextLemmas.{behind_colon, no_colon, same_behind}
use Rattle.fac_vocab.proofs.brought_names.behind_prefix.Goals as goal

pub returns-in-Some-strip_prefix : goal.returns-in-Some-strip_prefix
returns-in-Some-strip_prefix c =
    let rest : c.args.name.now ≡ c.args.prefix.now ++ c.in-Some.rest.now = c.in-Some.ensures.cases.1.1 ∙ ap (λ (xs : List ℕ). c.args.prefix.now ++ xs) (sym c.in-Some.ensures.cases.2) in
    let colon : c.in-Some.rest.now ≡ 58 ∷ c.in-Some-strip_prefix.behind.now = c.in-Some-strip_prefix.ensures.cases.1.1 ∙ ap (λ (xs : List ℕ). 58 ∷ xs) (sym c.in-Some-strip_prefix.ensures.cases.2) in
    sym (behind_colon c.args.name.now c.args.prefix.now c.in-Some-strip_prefix.behind.now (rest ∙ ap (λ (xs : List ℕ). c.args.prefix.now ++ xs) colon))

pub returns-in-None-strip_prefix : goal.returns-in-None-strip_prefix
returns-in-None-strip_prefix c =
    let rest : c.args.name.now ≡ c.args.prefix.now ++ c.in-Some.rest.now = c.in-Some.ensures.cases.1.1 ∙ ap (λ (xs : List ℕ). c.args.prefix.now ++ xs) (sym c.in-Some.ensures.cases.2) in
    sym (no_colon c.args.name.now c.args.prefix.now (λ more e. c.in-None-strip_prefix.ensures.cases more (same_behind c.args.prefix.now c.in-Some.rest.now (58 ∷ more) (sym rest ∙ e))))

pub returns-in-None : goal.returns-in-None
returns-in-None c = sym (no_colon c.args.name.now c.args.prefix.now (λ rest e. c.in-None.ensures.cases (58 ∷ rest) e))
