-- Loads of given texts.
use Rattle.std.proofs.Common.{◌≡◌, ◌<◌, ℕ, List, None, Some, IsSomeAnd, Result, Ok, Err, length, refl, sym, subst, ◌∙◌}
use Rattle.std.specs.declared.option.Option.{Option}
use Rattle.fac_io.specs.Files.{LoadAnswers, LoadAsks, LoadCounts}
use Rattle.fac_io.specs.Names.{Held}
use Rattle.fac_io.specs.declared.files.LoadFault.{LoadFault}
use Rattle.fac_io.specs.declared.files.LoadFault.TheVariants as load
use Rattle.fac_explainer.specs.inner.Steps.{GivesBytes}

pub given_answers : (held : Held) (name : List ℕ) (found : Option (List ℕ)) (limit : ℕ) (r : Result (List ℕ) LoadFault) → found ≡ held name → GivesBytes found limit r → LoadAnswers (Some held) name limit r
given_answers held name found limit (Ok bytes) e h = (h.1, sym e ∙ h.0)
given_answers held name found limit (Err load.TooLong) e h = subst (λ (x : Option (List ℕ)). IsSomeAnd x (λ bytes. limit < length bytes)) e h
given_answers held name found limit (Err load.Failed) e h = tt
given_answers held name found limit (Err load.Memory) e h = tt

pub given_asks : (name : List ℕ) (found : Option (List ℕ)) (limit : ℕ) (r : Result (List ℕ) LoadFault) → GivesBytes found limit r → LoadAsks name None None r
given_asks name found limit (Ok bytes) h = tt
given_asks name found limit (Err load.TooLong) h = tt
given_asks name found limit (Err load.Failed) h = tt
given_asks name found limit (Err load.Memory) h = tt

pub given_counts : (found : Option (List ℕ)) (limit : ℕ) (r : Result (List ℕ) LoadFault) → GivesBytes found limit r → LoadCounts 0 0 r
given_counts found limit (Ok bytes) h = refl
given_counts found limit (Err load.TooLong) h = refl
given_counts found limit (Err load.Failed) h = absurd h
given_counts found limit (Err load.Memory) h = refl
