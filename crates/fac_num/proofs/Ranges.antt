-- Answers for integers in range and out of it.
use Rattle.std.proofs.Common.{◌≡◌, ℕ, zero, suc, ℤ, pos, negsuc, ◌^◌, ◌<◌, ◌≢◌, Bool, true, false, List, [], ◌∷◌, Option, Some, None, Result, Err, get_or, drop, length, ◌⊎◌, inl, inr, refl, sym, ◌∙◌, ap, subst, arith}
use Rattle.std.specs.Prelude.{nat_eq}
use Rattle.std.proofs.lemmas.Bool.Decides.{nat_tests}
use Rattle.fac_base.specs.Numbers.{in_range, is_in_range, signed_in, magnitude_in}
use Rattle.fac_num.specs.declared.read.NumFault.{NumFault}
use Rattle.fac_num.specs.declared.read.NumFault.TheVariants.{TooWide}
use Rattle.fac_num.specs.Reading.{ReadsInt}
use Rattle.fac_num.specs.inner.NumberSteps.{capped, capped_some, with_sign, signed_some, narrowed, answer}

range_by : (z : ℤ) (b : Bool) → is_in_range z ≡ b → in_range z ≡ elim b [ true ↦ Some z | false ↦ None ]
range_by z b e = ap (λ (x : Bool). elim x [ true ↦ Some z | false ↦ None ]) e

out_of_range : (minus : Bool) (n : ℕ) → 2 ^ 127 < n → in_range (with_sign minus n) ≡ None
out_of_range true zero h = absurd (omega arith)
out_of_range true (suc n) h = range_by (negsuc n) false (grind (arith, nat_tests))
out_of_range false n h = range_by (pos n) false (grind (arith, nat_tests))

answer_outside : (minus : Bool) (n : ℕ) → 2 ^ 127 < n → answer minus (Some n) ≡ Err TooWide
answer_outside minus n h = ap narrowed (out_of_range minus n h)

small_or_large : (n : ℕ) → (capped n ≡ n) ⊎ ((2 ^ 127 < n) × (2 ^ 127 < capped n))
small_or_large n = grind arith

uncapped_by : (minus : Bool) (n : ℕ) → (capped n ≡ n) ⊎ ((2 ^ 127 < n) × (2 ^ 127 < capped n)) → answer minus (Some (capped n)) ≡ answer minus (Some n)
uncapped_by minus n (inl e) = ap (λ x. answer minus (Some x)) e
uncapped_by minus n (inr h) = answer_outside minus (capped n) h.1 ∙ sym (answer_outside minus n h.0)

-- the cap is out of range, as what it stands for
uncapped : (minus : Bool) (o : Option ℕ) → answer minus (capped_some o) ≡ answer minus o
uncapped minus None = refl
uncapped minus (Some n) = uncapped_by minus n (small_or_large n)

reads_by : (text : List ℕ) (z : ℤ) (b : Bool) → signed_in text ≡ Some z → is_in_range z ≡ b → ReadsInt text (narrowed (elim b [ true ↦ Some z | false ↦ None ]))
reads_by text z true e range = (e, ap (λ (o : Option ℤ). elim o [ None ↦ None | Some z ↦ in_range z ]) e ∙ range_by z true range)
reads_by text z false e range = (z, e, range_by z false range)

reads_some : (text : List ℕ) (minus : Bool) (o : Option ℕ) → signed_in text ≡ signed_some minus o → ReadsInt text (answer minus o)
reads_some text minus None e = e
reads_some text minus (Some n) e = reads_by text (with_sign minus n) (is_in_range (with_sign minus n)) e refl

-- a sign, and a capped magnitude behind it
pub reads : (text : List ℕ) (minus : Bool) (o : Option ℕ) (r : Result ℤ NumFault) → signed_in text ≡ signed_some minus o → r ≡ answer minus (capped_some o) → ReadsInt text r
reads text minus o r e is = subst (λ (x : Result ℤ NumFault). ReadsInt text x) (sym (is ∙ uncapped minus o)) (reads_some text minus o e)

sign_after : (minus : Bool) (o : Option ℕ) → ◌≡◌ {A = Option ℤ} (elim o [ None ↦ None | Some n ↦ Some (with_sign minus n) ]) (signed_some minus o)
sign_after minus None = refl
sign_after minus (Some n) = refl

signed_by : (b d : Bool) (o p : Option ℕ) → d ≡ b → ◌≡◌ {A = Option ℤ} (elim d [ true ↦ elim o [ None ↦ None | Some n ↦ Some (with_sign true n) ] | false ↦ elim p [ None ↦ None | Some n ↦ Some (with_sign false n) ] ]) (elim b [ true ↦ signed_some true o | false ↦ signed_some false p ])
signed_by true true o p e = sign_after true o
signed_by false false o p e = sign_after false p
signed_by true false o p e = cc
signed_by false true o p e = cc

signed_behind : (c : ℕ) (cs : List ℕ) (b : Bool) → nat_eq c 45 ≡ b → signed_in (c ∷ cs) ≡ elim b [ true ↦ signed_some true (magnitude_in cs) | false ↦ signed_some false (magnitude_in (c ∷ cs)) ]
signed_behind c cs b e = signed_by b (nat_eq c 45) (magnitude_in cs) (magnitude_in (c ∷ cs)) e

pub minus_reads : (text : List ℕ) (c : ℕ) (r : Result ℤ NumFault) → 0 < length text → get_or text 0 c ≡ 45 → r ≡ answer true (capped_some (magnitude_in (drop 1 text))) → ReadsInt text r
minus_reads [] c r h e is = absurd (omega arith)
minus_reads (x ∷ cs) c r h e is = reads (x ∷ cs) true (magnitude_in cs) r (signed_behind x cs true (grind (arith, nat_tests))) is

pub plain_reads : (text : List ℕ) (c : ℕ) (r : Result ℤ NumFault) → 0 < length text → get_or text 0 c ≢ 45 → r ≡ answer false (capped_some (magnitude_in text)) → ReadsInt text r
plain_reads [] c r h e is = absurd (omega arith)
plain_reads (x ∷ cs) c r h e is = reads (x ∷ cs) false (magnitude_in (x ∷ cs)) r (signed_behind x cs false (grind (arith, nat_tests))) is
