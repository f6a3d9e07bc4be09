-- Phrases and arrays that items come to have what sources have, and name words of the scope alone.
use Rattle.std.proofs.Common.{◌≡◌, ℕ, List, [], ◌∷◌, ◌++◌, Option, Some, None, Bool, true, false, suc}
use Rattle.fac_lang.proofs.SourcePrograms.{AreArraysOf, AreElementsOf, IsItemOf, IsPhraseOf}
use Rattle.fac_lang.specs.Phrases.{int, yes, no, str, Phrase, end, then as placed, local, word}
use Rattle.fac_lang.specs.RunningLaws.{append}
use Rattle.fac_lang.specs.declared.program.Lit.{Lit}
use Rattle.fac_source.specs.Toks.{number}
use Rattle.fac_vocab.specs.Scopes.{Scope, word_held}
use Rattle.fac_items.specs.Written.{Tok, n_lit, n_ref, n_name, n_call_effect, n_execute_effect, n_next, n_full, n_bind, n_hole, n_fry, n_part, n_quot, n_array, Nodes, nothing, more}
use Rattle.fac_items.specs.Items.{elements_of, local_of, phrase_of, word_of}
use Rattle.fac_items.proofs.PlainNodes.{AreElements, ArePlain}
use Rattle.fac_names.proofs.BuiltScopes.{ScopeIn, WordIn, word_in_held, word_of_in}

-- Phrases and arrays.

arrays_with : (may : ℕ → Bool) (arrays : List (List Lit)) (ls : List Lit) → AreArraysOf may arrays → AreElementsOf may ls → AreArraysOf may (arrays ++ ls ∷ [])
arrays_with may [] ls h k = (k, tt)
arrays_with may (xs ∷ arrays) ls h k = (h.0, arrays_with may arrays ls h.1 k)

pub append_built : (may : ℕ → Bool) (t u : Phrase) → IsPhraseOf may t → IsPhraseOf may u → IsPhraseOf may (append t u)
append_built may end u h k = k
append_built may (placed i p t) u h k = (h.0, append_built may t u h.1 k)

number_in : (may : ℕ → Bool) (o : Option ℕ) → may 0 ≡ true → WordIn may o → may (number o) ≡ true
number_in may None some h = some
number_in may (Some w) some h = h

held_in : (may : ℕ → Bool) (s : Scope) (vocab name : List ℕ) → may 0 ≡ true → ScopeIn may s → may (number (word_held s.table vocab name)) ≡ true
held_in may s vocab name some h = number_in may (word_held s.table vocab name) some (word_in_held may s.table vocab name h.table)

-- a local or a word
name_built : (may : ℕ → Bool) (s : Scope) (t : Tok) (o : Option ℕ) → may 0 ≡ true → ScopeIn may s → IsItemOf may (elim o [ Some x ↦ local x | None ↦ word (word_of s t) ])
name_built may s t (Some x) some h = tt
name_built may s t None some h = word_of_in may s t some h

mutual
  pub phrase_built : (may : ℕ → Bool) (s : Scope) (locals : List (List ℕ)) (fry : Bool) (ns : Nodes) (arrays : List (List Lit)) (holes : ℕ) → may 0 ≡ true → ScopeIn may s → ArePlain fry ns → AreArraysOf may arrays →
      IsPhraseOf may (phrase_of s locals ns arrays holes).phrase × AreArraysOf may (phrase_of s locals ns arrays holes).arrays
  phrase_built may s locals fry nothing arrays holes some h plain k = (tt, k)
  phrase_built may s locals fry (more (n_lit (int z) p) ns) arrays holes some h plain k = let rest = phrase_built may s locals fry ns arrays holes some h plain.1 k in ((tt, rest.0), rest.1)
  phrase_built may s locals fry (more (n_lit yes p) ns) arrays holes some h plain k = let rest = phrase_built may s locals fry ns arrays holes some h plain.1 k in ((tt, rest.0), rest.1)
  phrase_built may s locals fry (more (n_lit no p) ns) arrays holes some h plain k = let rest = phrase_built may s locals fry ns arrays holes some h plain.1 k in ((tt, rest.0), rest.1)
  phrase_built may s locals fry (more (n_lit (str bs) p) ns) arrays holes some h plain k = let rest = phrase_built may s locals fry ns arrays holes some h plain.1 k in ((tt, rest.0), rest.1)
  phrase_built may s locals fry (more (n_lit l p) ns) arrays holes some h plain k = absurd plain.0
  phrase_built may s locals fry (more (n_name t p) ns) arrays holes some h plain k =
      let rest = phrase_built may s locals fry ns arrays holes some h plain.1 k in ((name_built may s t (local_of locals t.text) some h, rest.0), rest.1)
  phrase_built may s locals fry (more (n_ref t p) ns) arrays holes some h plain k = let rest = phrase_built may s locals fry ns arrays holes some h plain.1 k in ((word_of_in may s t some h, rest.0), rest.1)
  phrase_built may s locals fry (more (n_call_effect e p) ns) arrays holes some h plain k = let rest = phrase_built may s locals fry ns arrays holes some h plain.1 k in ((tt, rest.0), rest.1)
  phrase_built may s locals fry (more (n_execute_effect e p) ns) arrays holes some h plain k = let rest = phrase_built may s locals fry ns arrays holes some h plain.1 k in ((tt, rest.0), rest.1)
  phrase_built may s locals fry (more (n_next p) ns) arrays holes some h plain k = let rest = phrase_built may s locals fry ns arrays holes some h plain.1 k in ((tt, rest.0), rest.1)
  phrase_built may s locals fry (more (n_full v x p) ns) arrays holes some h plain k = let rest = phrase_built may s locals fry ns arrays holes some h plain.1 k in ((held_in may s v x some h, rest.0), rest.1)
  phrase_built may s locals fry (more (n_bind t twice p) ns) arrays holes some h plain k = let rest = phrase_built may s (t.text ∷ locals) fry ns arrays holes some h plain.1 k in ((tt, rest.0), rest.1)
  phrase_built may s locals fry (more (n_hole p) ns) arrays holes some h plain k = let rest = phrase_built may s locals fry ns arrays (suc holes) some h plain.1 k in ((tt, rest.0), rest.1)
  phrase_built may s locals fry (more (n_quot ms p) ns) arrays holes some h plain k =
      let m = phrase_of s locals ms arrays holes in
      let inner = phrase_built may s locals fry ms arrays holes some h plain.0 k in
      let rest = phrase_built may s locals fry ns m.arrays m.holes some h plain.1 inner.1 in
      ((inner.0, rest.0), rest.1)
  phrase_built may s locals fry (more (n_fry ms p) ns) arrays holes some h plain k =
      let m = phrase_of s locals ms arrays 0 in
      let inner = phrase_built may s locals true ms arrays 0 some h plain.0 k in
      let rest = phrase_built may s locals fry ns m.arrays holes some h plain.1 inner.1 in
      ((inner.0, rest.0), rest.1)
  phrase_built may s locals fry (more (n_array ms p) ns) arrays holes some h plain k =
      let m = elements_of s ms arrays in
      let inner = elements_built may s ms arrays some h plain.0 k in
      let rest = phrase_built may s locals fry ns (m.arrays ++ m.elements ∷ []) holes some h plain.1 (arrays_with may m.arrays m.elements inner.1 inner.0) in
      ((tt, rest.0), rest.1)
  phrase_built may s locals fry (more (n_part ms) ns) arrays holes some h plain k =
      let m = phrase_of s locals ms arrays holes in
      let inner = phrase_built may s locals fry ms arrays holes some h plain.0 k in
      let rest = phrase_built may s locals fry ns m.arrays m.holes some h plain.1 inner.1 in
      (append_built may m.phrase (phrase_of s locals ns m.arrays m.holes).phrase inner.0 rest.0, rest.1)
  phrase_built may s locals fry (more x ns) arrays holes some h plain k = absurd plain.0

  pub elements_built : (may : ℕ → Bool) (s : Scope) (ns : Nodes) (arrays : List (List Lit)) → may 0 ≡ true → ScopeIn may s → AreElements ns → AreArraysOf may arrays →
      AreElementsOf may (elements_of s ns arrays).elements × AreArraysOf may (elements_of s ns arrays).arrays
  elements_built may s nothing arrays some h plain k = (tt, k)
  elements_built may s (more (n_lit (int z) p) ns) arrays some h plain k = let rest = elements_built may s ns arrays some h plain.1 k in ((tt, rest.0), rest.1)
  elements_built may s (more (n_lit yes p) ns) arrays some h plain k = let rest = elements_built may s ns arrays some h plain.1 k in ((tt, rest.0), rest.1)
  elements_built may s (more (n_lit no p) ns) arrays some h plain k = let rest = elements_built may s ns arrays some h plain.1 k in ((tt, rest.0), rest.1)
  elements_built may s (more (n_lit (str bs) p) ns) arrays some h plain k = let rest = elements_built may s ns arrays some h plain.1 k in ((tt, rest.0), rest.1)
  elements_built may s (more (n_lit l p) ns) arrays some h plain k = absurd plain.0
  elements_built may s (more (n_ref t p) ns) arrays some h plain k = let rest = elements_built may s ns arrays some h plain.1 k in ((word_of_in may s t some h, rest.0), rest.1)
  elements_built may s (more (n_name t p) ns) arrays some h plain k = let rest = elements_built may s ns arrays some h plain.1 k in ((word_of_in may s t some h, rest.0), rest.1)
  elements_built may s (more (n_quot ms p) ns) arrays some h plain k =
      let m = phrase_of s [] ms arrays 0 in
      let inner = phrase_built may s [] false ms arrays 0 some h plain.0 k in
      let rest = elements_built may s ns m.arrays some h plain.1 inner.1 in
      ((inner.0, rest.0), rest.1)
  elements_built may s (more (n_array ms p) ns) arrays some h plain k =
      let m = elements_of s ms arrays in
      let inner = elements_built may s ms arrays some h plain.0 k in
      let rest = elements_built may s ns (m.arrays ++ m.elements ∷ []) some h plain.1 (arrays_with may m.arrays m.elements inner.1 inner.0) in
      ((tt, rest.0), rest.1)
  elements_built may s (more x ns) arrays some h plain k = absurd plain.0
