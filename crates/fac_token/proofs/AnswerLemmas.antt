-- A file has one answer, apart from want of memory.
use Rattle.std.proofs.Common.{◌≡◌, ℕ, List, ◌⊎◌, inl, inr, Result, Ok, Err, refl, sym, ◌∙◌, ap}
use Rattle.std.specs.Str.{IsUtf8, IsValidUpTo}
use Rattle.std.proofs.lemmas.Str.{encodes_same, utf8_valid_len-IsValidUpTo}
use Rattle.fac_source.specs.declared.token.Token.{Token}
use Rattle.fac_token.specs.declared.fault.TokenFault.{TokenFault}
use Rattle.fac_token.specs.declared.fault.TokenFault.TheVariants.{NotUtf8, OpenString, BadEscape, StuckQuote, Memory}
use Rattle.fac_token.specs.Lexemes.{open_string, bad_escape, stuck_quote}
use Rattle.fac_token.specs.inner.Scan.{lexemes}
use Rattle.fac_token.specs.Tokens.{Spells, Tokenizes}
use Rattle.fac_token.specs.ReadingLaws.{IsNotMemory}
use Rattle.fac_token.proofs.OneReading.{reading_read, fault_read}
use Rattle.fac_token.proofs.StepLemmas.{view_end, listed}

-- the answer of a text
abbrev OfText : ℕ → List ℕ → Result (List Token) TokenFault → Type 0
OfText file bytes r = (chars : List ℕ) × Spells chars bytes × (r ≡ view_end file (lexemes chars))

-- that of bytes that are none
abbrev OfBytes : List ℕ → Result (List Token) TokenFault → Type 0
OfBytes bytes r = (at : ℕ) × (¬ (IsUtf8 bytes)) × IsValidUpTo bytes at × (r ≡ Err (NotUtf8 at))

abbrev failed : TokenFault → Result (List Token) TokenFault
failed f = Err f

text_or_bytes : (file : ℕ) (bytes : List ℕ) (r : Result (List Token) TokenFault) → IsNotMemory r → Tokenizes file bytes r → OfText file bytes r ⊎ OfBytes bytes r
text_or_bytes file bytes (Ok ts) n h = inl (h.chars, h.spells, ap (λ (ts : List Token). listed ts) h.are ∙ ap (view_end file) (sym (reading_read h.chars h.ps h.reading)))
text_or_bytes file bytes (Err (NotUtf8 at)) n h = inr (at, h.0, h.1, refl)
text_or_bytes file bytes (Err (OpenString at)) n h = inl (h.chars, h.spells, ap (λ (k : ℕ). failed (OpenString k)) h.offset ∙ ap (view_end file) (sym (fault_read h.chars (open_string h.before) h.first)))
text_or_bytes file bytes (Err (BadEscape at)) n h = inl (h.chars, h.spells, ap (λ (k : ℕ). failed (BadEscape k)) h.offset ∙ ap (view_end file) (sym (fault_read h.chars (bad_escape h.before) h.first)))
text_or_bytes file bytes (Err (StuckQuote at)) n h = inl (h.chars, h.spells, ap (λ (k : ℕ). failed (StuckQuote k)) h.offset ∙ ap (view_end file) (sym (fault_read h.chars (stuck_quote h.before) h.first)))
text_or_bytes file bytes (Err Memory) n h = absurd n

is_text : (chars bytes : List ℕ) → Spells chars bytes → IsUtf8 bytes
is_text chars bytes s = (chars, (s.scalars, s.encoded))

same : (file : ℕ) (bytes : List ℕ) (r t : Result (List Token) TokenFault) → OfText file bytes r ⊎ OfBytes bytes r → OfText file bytes t ⊎ OfBytes bytes t → r ≡ t
same file bytes r t (inl (chars, s, e)) (inl (others, z, d)) = e ∙ (ap (λ (cs : List ℕ). view_end file (lexemes cs)) (encodes_same chars others (s.encoded ∙ sym z.encoded)) ∙ sym d)
same file bytes r t (inl (chars, s, e)) (inr (at, n, v, d)) = absurd (n (is_text chars bytes s))
same file bytes r t (inr (at, n, v, e)) (inl (chars, s, d)) = absurd (n (is_text chars bytes s))
same file bytes r t (inr (at, n, v, e)) (inr (k, m, w, d)) = e ∙ (ap (λ (i : ℕ). failed (NotUtf8 i)) (sym (utf8_valid_len-IsValidUpTo bytes at v) ∙ utf8_valid_len-IsValidUpTo bytes k w) ∙ sym d)

pub one_answer : (file : ℕ) (bytes : List ℕ) (r t : Result (List Token) TokenFault) → IsNotMemory r → IsNotMemory t → Tokenizes file bytes r → Tokenizes file bytes t → r ≡ t
one_answer file bytes r t n m h k = same file bytes r t (text_or_bytes file bytes r n h) (text_or_bytes file bytes t m k)
