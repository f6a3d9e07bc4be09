-- An instruction as a tail call: what doesn't hang on the flag is the same.
use Rattle.std.proofs.Common.{◌≡◌, ℕ, zero, suc, Bool, refl}
use Rattle.fac_lang.specs.Phrases.{Phrase, end, then}
use Rattle.fac_code.specs.declared.image.Instr.{Instr}
use Rattle.fac_code.specs.declared.image.Instr.TheVariants.{Bind, Callw, Call, If, Execute, CallEffect, ExecuteEffect, Ret, Generic, Next}
use Rattle.fac_carry.specs.Accessors.{Accessor, getting, setting, putting, accessor_instr}
use Rattle.fac_carry.specs.Stands.{making}
use Rattle.fac_emit.specs.ProgramCode.{tailed, before}

-- before the rest of a phrase a test tells the same of it
pub before_same : (test : Instr → Bool) → ((i : Instr) → test (tailed i) ≡ test i) → (t : Phrase) (last i : Instr) → test (before t last i) ≡ test i
before_same test same (then j p t) last i = refl
before_same test same end Ret i = same i
before_same test same end _ i = refl

-- what calls nothing is itself
pub bind_before : (t : Phrase) (last : Instr) → before t last Bind ≡ Bind
bind_before (then i p t) last = refl
bind_before end Ret = refl
bind_before end _ = refl

pub tailed_making : (q n : ℕ) → tailed (making q n) ≡ making q n
tailed_making q zero = refl
tailed_making q (suc n) = refl

pub tailed_accessor : (x : Accessor) (k : ℕ) → tailed (accessor_instr x k) ≡ accessor_instr x k
tailed_accessor getting k = refl
tailed_accessor setting k = refl
tailed_accessor putting k = refl
