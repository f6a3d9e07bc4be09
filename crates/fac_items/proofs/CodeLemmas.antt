-- What the code keeps from element to element.
use Rattle.std.proofs.Common.{◌≡◌, ◌<◌, ◌≤◌, ◌+◌, ◌-◌, ℕ, zero, suc, List, [], ◌∷◌, ◌++◌, length, get_or, map, fold, take, Option, Bool, refl, ap, sym, ◌∙◌, arith, append_assoc, append-nil}
use Rattle.std.specs.Prelude.{reverse}
use Rattle.std.proofs.lemmas.List.{map-append, reverse-append}
use Rattle.fac_lang.specs.Phrases.{end}
use Rattle.fac_lang.specs.declared.program.Lit.{Lit}
use Rattle.fac_source.specs.declared.tree.Element.{Element}
use Rattle.fac_source.specs.declared.refusal.NameFault.{NameFault}
use Rattle.fac_source.specs.Refusals.{sooner}
use Rattle.fac_source.specs.Toks.{is_among, texts_of}
use Rattle.fac_vocab.specs.Scopes.{Scope}
use Rattle.fac_items.specs.declared.nest.At.TheVariants.{Inside}
use Rattle.fac_items.specs.declared.spelled.NameAt.{NameAt}
use Rattle.fac_items.specs.Written.{Tok, Nodes}
use Rattle.fac_items.specs.FromElements.{AreClosing, nested}
use Rattle.fac_items.specs.Items.{is_cond, items_faults}
use Rattle.fac_items.specs.Made.{made, nodes_read}
use Rattle.fac_items.specs.Readings.{with_inputs}
use Rattle.fac_items.specs.inner.Behind.{Scanned, all_scanned, name_tok, scanned}
use Rattle.fac_items.specs.inner.TakenBits.{Taken, a_phrase, all_bound, begun, bits_of, bits_taken, bound_taken, bracket_closed, closed_times, locals_seen, phrase_in}
use Rattle.fac_items.proofs.LocalLemmas.{locals_behind}
use Rattle.fac_items.proofs.RawNodes.{bindings_raw, nested_raw}
use Rattle.fac_items.proofs.SpellLemmas.{elements_spelled}
use Rattle.fac_items.proofs.TakenLemmas.{inputs_bound, items_taken, taken_at}

pub scan_push : (c : List ℕ → Bool) (es : List Element) (e : Element) (s : Scanned) → all_scanned c (es ++ e ∷ []) s ≡ all_scanned c es (scanned c e s)
scan_push c [] e s = refl
scan_push c (x ∷ es) e s = ap (scanned c x) (scan_push c es e s)

-- elements from the last one on
pub scan_more : (c : List ℕ → Bool) (all before after : List Element) (e : Element) (first s t : Scanned) → all_scanned c all first ≡ all_scanned c before s → before ≡ after ++ e ∷ [] → t ≡ scanned c e s → all_scanned c all first ≡ all_scanned c after t
scan_more c all before after e first s t h split is = h ∙ ap (λ (es : List Element). all_scanned c es s) split ∙ scan_push c after e s ∙ ap (all_scanned c after) (sym is)

turned : (x : List ℕ) (xs e : List (List ℕ)) → reverse xs ++ x ∷ e ≡ reverse (x ∷ xs) ++ e
turned x xs e = sym (ap (λ (ys : List (List ℕ)). ys ++ e) (reverse-append (x ∷ []) xs) ∙ append_assoc (reverse xs) (x ∷ []) e)

pub bound_push : (ts : List Tok) (t : Tok) (e : List (List ℕ)) (n : Taken) → all_bound (ts ++ t ∷ []) e n ≡ all_bound ts e (bound_taken t (is_among t.text (reverse (texts_of ts) ++ e)) t.place n)
bound_push [] t e n = refl
bound_push (x ∷ ts) t e n =
    ap (bound_taken x (is_among x.text e) x.place)
    (bound_push ts t (x.text ∷ e) n ∙ ap (λ (xs : List (List ℕ)). all_bound ts (x.text ∷ e) (bound_taken t (is_among t.text xs) t.place n)) (turned x.text (texts_of ts) e))

pub times_more : (s : Scope) (n k : ℕ) (first before after : Taken) → k < n → closed_times s n first ≡ closed_times s (n - k) before → after ≡ bracket_closed s before → closed_times s n first ≡ closed_times s (n - (k + 1)) after
times_more s n k first before after less h is =
    h ∙ ap (λ (m : ℕ). closed_times s m before) (let e : n - k ≡ suc (n - (k + 1)) = omega (arith, less) in e) ∙ ap (closed_times s (n - (k + 1))) (sym is)

-- The whole of the items.

abbrev pub PhraseTaken : Scope → Nodes → List (List Lit) → Option NameFault → Taken → Type 0
PhraseTaken s ns arrays first n =
    (phrase_in n.content ≡ (made s ns arrays).phrase) × (n.arrays ≡ (made s ns arrays).arrays) × (n.first ≡ fold sooner first (items_faults s [] (nodes_read s ns)))

pub phrase_taken : (s : Scope) (inputs : List Tok) (es : List Element) (arrays : List (List Lit)) (first : Option NameFault) (n : Taken) → AreClosing [] es → n ≡ bits_taken s (all_bound inputs [] (begun arrays first)) (bits_of s es) → PhraseTaken s (with_inputs inputs (nested es)) arrays first n
phrase_taken s inputs es arrays first n h is =
    let ns = with_inputs inputs (nested es) in
    let both = items_taken s _ ns (bindings_raw _ inputs [] (nested es) (nested_raw es h)) in
    let m = made s ns arrays in
    let all : n ≡ taken_at [] Inside (a_phrase m.phrase) (locals_behind ns []) m.holes m.arrays (fold sooner first (items_faults s [] (nodes_read s ns))) =
    is ∙ ap (bits_taken s (all_bound inputs [] (begun arrays first))) (elements_spelled (is_cond s) es h) ∙ sym (inputs_bound s inputs [] (nested es) (begun arrays first) refl) ∙ both.here [] end [] 0 arrays first in
    (ap (λ (x : Taken). phrase_in x.content) all, ap (λ (x : Taken). x.arrays) all, ap (λ (x : Taken). x.first) all)

take_next : {A : Type 0} (xs : List A) (j : ℕ) (d : A) → j < length xs → take (suc j) xs ≡ take j xs ++ get_or xs j d ∷ []
take_next [] j d less = absurd (omega (arith, less))
take_next (x ∷ xs) zero d less = refl
take_next (x ∷ xs) (suc j) d less = ap (λ ys. x ∷ ys) (take_next xs j d (omega (arith, less)))

pub record BoundMore (ns : List NameAt) (k : ℕ) (first after : Taken) : Type 0 where
  pub within : k - 1 ≤ length ns
  pub bound : all_bound (map name_tok ns) [] first ≡ all_bound (map name_tok (take (k - 1) ns)) [] after

texts_turned : (ns : List NameAt) → reverse (texts_of (map name_tok ns)) ++ [] ≡ locals_seen ns
texts_turned ns = append-nil (reverse (texts_of (map name_tok ns))) ∙ ap reverse (same ns)
  where
    same : (ms : List NameAt) → texts_of (map name_tok ms) ≡ map (λ (n : NameAt). n.text.now) ms
    same [] = refl
    same (m ∷ ms) = ap (λ (xs : List (List ℕ)). m.text.now ∷ xs) (same ms)

-- one input more is bound, the last one first
pub bound_more : (ns : List NameAt) (k : ℕ) (d : NameAt) (twice : Bool) (first before after : Taken) → 0 < k → k ≤ length ns → twice ≡ is_among (get_or ns (k - 1) d).text.now (locals_seen (take (k - 1) ns)) →
    all_bound (map name_tok ns) [] first ≡ all_bound (map name_tok (take k ns)) [] before → after ≡ bound_taken (name_tok (get_or ns (k - 1) d)) twice (get_or ns (k - 1) d).place before → BoundMore ns k first after
bound_more ns k d twice first before after some few is h made_is =
    let j = k - 1 in
    let n = get_or ns j d in
    let ts = map name_tok (take j ns) in
    record {
      within = omega (arith, some, few);
      bound =
          h
          ∙ ap (λ (m : ℕ). all_bound (map name_tok (take m ns)) [] before) (let e : k ≡ suc (k - 1) = omega (arith, some) in e)
          ∙ ap (λ (ms : List NameAt). all_bound (map name_tok ms) [] before) (take_next ns j d (omega (arith, some, few)))
          ∙ ap (λ (ms : List Tok). all_bound ms [] before) (map-append name_tok (take j ns) (n ∷ []))
          ∙ bound_push ts (name_tok n) [] before
          ∙ ap (λ (xs : List (List ℕ)). all_bound ts [] (bound_taken (name_tok n) (is_among n.text.now xs) n.place before)) (texts_turned (take j ns))
          ∙ ap (λ (b : Bool). all_bound ts [] (bound_taken (name_tok n) b n.place before)) (sym is)
          ∙ ap (all_bound ts []) (sym made_is);
    }
