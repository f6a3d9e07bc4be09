-- Each file has an answer.
use Rattle.std.proofs.Common.{◌≡◌, ◌<◌, ℕ, zero, suc, List, [], ◌∷◌, length, take, Bool, true, false, ◌⊎◌, inl, inr, Result, Ok, Err, refl, sym, subst, arith}
use Rattle.std.proofs.Math.Nat.{eq-or-lt_of_le}
use Rattle.std.specs.Str.{IsUtf8, IsValidUpTo, is_utf8}
use Rattle.std.proofs.lemmas.Str.{IsUtf8-nil, IsUtf8-from_is_utf8, is_utf8-from_IsUtf8}
use Rattle.std.proofs.lemmas.List.{take_all}
use Rattle.fac_source.specs.declared.token.Token.{Token}
use Rattle.fac_token.specs.declared.fault.TokenFault.{TokenFault}
use Rattle.fac_token.specs.declared.fault.TokenFault.TheVariants.{NotUtf8, OpenString, BadEscape, StuckQuote}
use Rattle.fac_token.specs.Lexemes.{Lexeme, Reading, Fault, open_string, bad_escape, stuck_quote, FirstFault}
use Rattle.fac_token.specs.Tokens.{Tokenizes, Spells, numbered, kinds}
use Rattle.fac_token.specs.ReadingLaws.{IsNotMemory}
use Rattle.fac_token.proofs.ScanLemmas.{read_or_faulty}

abbrev Answer : ℕ → List ℕ → Type 0
Answer file bytes = (r : Result (List Token) TokenFault) × IsNotMemory r × Tokenizes file bytes r

-- no front beyond so many bytes is UTF-8
abbrev NoneBeyond : List ℕ → ℕ → Type 0
NoneBeyond bytes n = (m : ℕ) → n < m → ¬ (IsUtf8 (take m bytes))

one_less : (bytes : List ℕ) (n : ℕ) → is_utf8 (take (suc n) bytes) ≡ false → NoneBeyond bytes (suc n) → NoneBeyond bytes n
one_less bytes n not_so none m above u =
    elim (eq-or-lt_of_le above) [ inl e ↦ let yes = is_utf8-from_IsUtf8 (take (suc n) bytes) (subst (λ (k : ℕ). IsUtf8 (take k bytes)) (sym e) u) in cc | inr more ↦ none m more u ]

front_by : (bytes : List ℕ) (n : ℕ) (b : Bool) → is_utf8 (take (suc n) bytes) ≡ b → suc n < length bytes → NoneBeyond bytes (suc n) → (NoneBeyond bytes n → (at : ℕ) × IsValidUpTo bytes at) → (at : ℕ) × IsValidUpTo bytes at
front_by bytes n true e short none below = (suc n, record { short = short; front = IsUtf8-from_is_utf8 _ e; longest = none })
front_by bytes n false e short none below = below (one_less bytes n e none)

-- the longest front that is UTF-8
front : (bytes : List ℕ) (n : ℕ) → n < length bytes → NoneBeyond bytes n → (at : ℕ) × IsValidUpTo bytes at
front bytes zero short none = (zero, record { short = short; front = IsUtf8-nil; longest = none })
front bytes (suc n) short none = front_by bytes n (is_utf8 (take (suc n) bytes)) refl short none (front bytes n (omega (arith, short)))

no_text : (bytes : List ℕ) → ¬ (IsUtf8 bytes) → (at : ℕ) × IsValidUpTo bytes at
no_text [] none = absurd (none IsUtf8-nil)
no_text (b ∷ bytes) none =
    front (b ∷ bytes) (length bytes) (omega arith) (λ m above u. none (subst IsUtf8 (take_all m (b ∷ bytes) (omega (arith, above))) u))

of_fault : (file : ℕ) (chars bytes : List ℕ) (f : Fault) → Spells chars bytes → FirstFault chars f → Answer file bytes
of_fault file chars bytes (open_string before) spells first = (Err (OpenString _), tt, record { chars = chars; before = before; spells = spells; first = first; offset = refl })
of_fault file chars bytes (bad_escape before) spells first = (Err (BadEscape _), tt, record { chars = chars; before = before; spells = spells; first = first; offset = refl })
of_fault file chars bytes (stuck_quote before) spells first = (Err (StuckQuote _), tt, record { chars = chars; before = before; spells = spells; first = first; offset = refl })

of_text : (file : ℕ) (chars bytes : List ℕ) → Spells chars bytes → ((ps : List Lexeme) × Reading chars ps) ⊎ ((f : Fault) × FirstFault chars f) → Answer file bytes
of_text file chars bytes spells (inl read) = (Ok (numbered file 1 (kinds read.0)), tt, record { chars = chars; ps = read.0; spells = spells; reading = read.1; are = refl })
of_text file chars bytes spells (inr wrong) = of_fault file chars bytes wrong.0 spells wrong.1

spelled_by : (bytes : List ℕ) → IsUtf8 bytes → (cs : List ℕ) × Spells cs bytes
spelled_by bytes u = (u.0, record { scalars = u.1.0; encoded = u.1.1 })

of_bytes : (file : ℕ) (bytes : List ℕ) (b : Bool) → is_utf8 bytes ≡ b → Answer file bytes
of_bytes file bytes true e = let s = spelled_by bytes (IsUtf8-from_is_utf8 bytes e) in of_text file s.0 bytes s.1 (read_or_faulty s.0)
of_bytes file bytes false e =
    let none : ¬ (IsUtf8 bytes) = λ u. let yes = is_utf8-from_IsUtf8 bytes u in cc in
    let at = no_text bytes none in
    (Err (NotUtf8 at.0), tt, (none, at.1))

pub file_answer : (file : ℕ) (bytes : List ℕ) → Answer file bytes
file_answer file bytes = of_bytes file bytes (is_utf8 bytes) refl
