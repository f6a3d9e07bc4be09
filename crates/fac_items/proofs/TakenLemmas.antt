-- What the bits of nodes come to.
use Rattle.std.proofs.Common.{◌≡◌, ℕ, suc, List, [], ◌∷◌, ◌++◌, length, fold, Option, Some, None, Bool, true, false, refl, ap, sym, ◌∙◌, subst, append_assoc, append-nil}
use Rattle.std.specs.Prelude.{is_some, if◌then◌else◌}
use Rattle.std.proofs.lemmas.List.Sums.{fold-append}
use Rattle.fac_lang.specs.Phrases.{wrd, Phrase, end, then as placed, Item, lit, lit_arr, quot, word, bind, local, fry as fry_item, hole, call_effect, execute_effect, next_method}
use Rattle.fac_lang.specs.RunningLaws.{append}
use Rattle.fac_base.specs.declared.place.Place.{Place}
use Rattle.fac_lang.specs.declared.program.Lit.{Lit}
use Rattle.fac_lang.specs.declared.program.Lit.TheVariants as literal_is
use Rattle.fac_source.specs.declared.tree.Bracket.TheVariants.{Quotation}
use Rattle.fac_source.specs.declared.refusal.NameFault.{NameFault}
use Rattle.fac_source.specs.declared.refusal.NameKind.TheVariants.{Twice}
use Rattle.fac_source.specs.Refusals.{fault_if, sooner}
use Rattle.fac_source.specs.Toks.{is_among}
use Rattle.fac_vocab.specs.Scopes.{Scope}
use Rattle.fac_items.specs.declared.added.Added.{Added}
use Rattle.fac_items.specs.declared.added.Added.TheVariants as add
use Rattle.fac_items.specs.declared.nest.At.{At}
use Rattle.fac_items.specs.declared.nest.At.TheVariants.{Inside, Cases}
use Rattle.fac_items.specs.declared.nest.Spot.TheVariants.{Between, BeforeSecond, BehindSecond, BehindLast}
use Rattle.fac_items.specs.Written.{Tok, Node, n_lit, n_array, n_quot, n_ref, n_name, n_locals, n_fry, n_call_effect, n_execute_effect, n_bind, n_hole, n_at, n_next, Nodes, nothing, more}
use Rattle.fac_items.specs.Readings.{are_pairs, behind_first, bindings, bound, joined, read_elements, read_items, read_pairs}
use Rattle.fac_items.specs.Items.{Made, behind_phrase, elements_of, is_cond, item_faults, item_of, items_faults, literal, local_of, phrase_of, search_fault, word_of}
use Rattle.fac_items.specs.inner.Bits.{Bit, closes, leaf, opens}
use Rattle.fac_items.specs.inner.TakenBits.{Around, Kept, Taken, a_phrase, added_behind, added_item, all_bound, array_or_cases, bit_taken, bits_taken, bound_taken, bracket_closed, closed_times, cond_place, in_array, in_fresh, in_last, in_quotation, leaf_at, name_as, some_elements, with_array, with_fresh, with_item}
use Rattle.fac_items.proofs.LocalLemmas.{among_local, kept_behind, locals_behind}
use Rattle.fac_items.proofs.PhraseLemmas.{append_end, append_three}
use Rattle.fac_items.proofs.RawNodes.{AreRaw, AreRawElements}
use Rattle.fac_items.proofs.ReadingLemmas.{bindings_read, cond_is, name_before, pairs_before, with_pairs}
use Rattle.fac_items.proofs.SpellLemmas.{mark, spell}

abbrev pub taken_at : List Around → At → Kept → List (List ℕ) → ℕ → List (List Lit) → Option NameFault → Taken
taken_at outer at content locals holes arrays first = record { outer = outer; at = at; content = content; locals = locals; holes = holes; arrays = arrays; first = first }

-- behind a phrase, what these items that are read come to
abbrev pub with_made : Scope → List Around → Phrase → List (List ℕ) → List (List ℕ) → Nodes → List (List Lit) → ℕ → Option NameFault → Taken
with_made s outer t locals behind ms arrays holes first =
    let m = phrase_of s locals ms arrays holes in taken_at outer Inside (a_phrase (append t m.phrase)) behind m.holes m.arrays (fold sooner first (items_faults s locals ms))

abbrev pub ItemsTaken : Scope → Nodes → Type 0
ItemsTaken s ns = (outer : List Around) (t : Phrase) (locals : List (List ℕ)) (holes : ℕ) (arrays : List (List Lit)) (first : Option NameFault) →
    bits_taken s (taken_at outer Inside (a_phrase t) locals holes arrays first) (spell (is_cond s) ns) ≡ with_made s outer t locals (locals_behind ns locals) (read_items (is_cond s) locals ns) arrays holes first

abbrev ElementsTaken : Scope → Nodes → Type 0
ElementsTaken s es = (outer : List Around) (ls : List Lit) (holes : ℕ) (arrays : List (List Lit)) (first : Option NameFault) →
    bits_taken s (taken_at outer Inside (some_elements ls) [] holes arrays first) (spell (is_cond s) es) ≡
    (let m = elements_of s (read_elements (is_cond s) es) arrays in taken_at outer Inside (some_elements (ls ++ m.elements)) [] holes m.arrays (fold sooner first (items_faults s [] (read_elements (is_cond s) es))))

-- Items one behind another.

-- an item before others, with its refusals
item_before : (s : Scope) (i : Item) (p : Place) (ns : Nodes) → ItemsTaken s ns → (outer : List Around) (t : Phrase) (locals : List (List ℕ)) (holes : ℕ) (arrays : List (List Lit)) (first : Option NameFault) (fs : List NameFault) →
    bits_taken s (taken_at outer Inside (a_phrase (append t (placed i p end))) locals holes arrays (fold sooner first fs)) (spell (is_cond s) ns) ≡
    (let ms = read_items (is_cond s) locals ns in let m = phrase_of s locals ms arrays holes in taken_at outer Inside (a_phrase (append t (placed i p m.phrase))) (locals_behind ns locals) m.holes m.arrays (fold sooner first (fs ++ items_faults s locals ms)))
item_before s i p ns h outer t locals holes arrays first fs =
    let ms = read_items (is_cond s) locals ns in
    let m = phrase_of s locals ms arrays holes in
    h outer (append t (placed i p end)) locals holes arrays (fold sooner first fs)
    ∙ ap (λ (u : Phrase). taken_at outer Inside (a_phrase u) (locals_behind ns locals) m.holes m.arrays (fold sooner (fold sooner first fs) (items_faults s locals ms))) (append_three t (placed i p end) m.phrase)
    ∙ ap (λ (o : Option NameFault). taken_at outer Inside (a_phrase (append t (placed i p m.phrase))) (locals_behind ns locals) m.holes m.arrays o) (sym (fold-append sooner first fs (items_faults s locals ms)))

-- what a name comes to
abbrev named_item : Scope → Tok → Option ℕ → Item
named_item s t o = elim o [ Some x ↦ local x | None ↦ word (word_of s t) ]

abbrev named_faults : Scope → Tok → Bool → List NameFault
named_faults s t b = (if b then [] else search_fault s t)

name_is : (s : Scope) (x : Tok) (p : Place) (outer : List Around) (t : Phrase) (locals : List (List ℕ)) (holes : ℕ) (arrays : List (List Lit)) (first : Option NameFault) (o : Option ℕ) →
    name_as s x p o (taken_at outer Inside (a_phrase t) locals holes arrays first) ≡ taken_at outer Inside (a_phrase (append t (placed (named_item s x o) p end))) locals holes arrays (fold sooner first (named_faults s x (is_some o)))
name_is s x p outer t locals holes arrays first (Some n) = refl
name_is s x p outer t locals holes arrays first None = refl

name_before_items : (s : Scope) (x : Tok) (p : Place) (ns : Nodes) → ItemsTaken s ns → ItemsTaken s (more (n_name x p) ns)
name_before_items s x p ns h outer t locals holes arrays first =
    ap (λ (n : Taken). bits_taken s n (spell (is_cond s) ns))
    (name_is s x p outer t locals holes arrays first (local_of locals x.text)
    ∙ ap (λ (b : Bool). taken_at outer Inside (a_phrase (append t (placed (named_item s x (local_of locals x.text)) p end))) locals holes arrays (fold sooner first (named_faults s x b))) (sym (among_local x.text locals)))
    ∙ item_before s (named_item s x (local_of locals x.text)) p ns h outer t locals holes arrays first (named_faults s x (is_among x.text locals))

hole_called : (s : Scope) (p : Place) (ns : Nodes) → ItemsTaken s ns → ItemsTaken s (more (n_at p) ns)
hole_called s p ns h outer t locals holes arrays first =
    let ms = read_items (is_cond s) locals ns in
    let m = phrase_of s locals ms arrays (suc holes) in
    item_before s (added_item s add.Call) p ns h outer (append t (placed (hole holes) p end)) locals (suc holes) arrays first []
    ∙ ap (λ (u : Phrase). taken_at outer Inside (a_phrase u) (locals_behind ns locals) m.holes m.arrays (fold sooner first (items_faults s locals ms))) (append_three t (placed (hole holes) p end) (placed (added_item s add.Call) p m.phrase))

bound_before_items : (s : Scope) (x : Tok) (twice : Bool) (p : Place) (ns : Nodes) → ItemsTaken s ns → ItemsTaken s (more (n_bind x twice p) ns)
bound_before_items s x twice p ns h outer t locals holes arrays first = item_before s (bind (length locals)) p ns h outer t (x.text ∷ locals) holes arrays first (fault_if twice Twice x)

-- What stands in a bracket.

-- items in a quotation that is open, and the bits behind it
inside_taken : (s : Scope) (ms : Nodes) (bits : List Bit) → ItemsTaken s ms → (o : Around) (outer : List Around) (locals : List (List ℕ)) (holes : ℕ) (arrays : List (List Lit)) (first : Option NameFault) →
    bits_taken s (taken_at (o ∷ outer) Inside (a_phrase end) locals holes arrays first) (spell (is_cond s) ms ++ closes ∷ bits) ≡
    bits_taken s (bracket_closed s (with_made s (o ∷ outer) end locals (locals_behind ms locals) (read_items (is_cond s) locals ms) arrays holes first)) bits
inside_taken s ms bits h o outer locals holes arrays first =
    fold-append (bit_taken s) (taken_at (o ∷ outer) Inside (a_phrase end) locals holes arrays first) (spell (is_cond s) ms) (closes ∷ bits)
    ∙ ap (λ (n : Taken). bits_taken s n (closes ∷ bits)) (h (o ∷ outer) end locals holes arrays first)

-- what a quotation of a phrase comes to, with the word behind it
quotation_taken : (s : Scope) (ms : Nodes) (bits : List Bit) → ItemsTaken s ms → (added : Option (Added × Place)) (at : At) (before : Kept) (p : Place) (outer : List Around) (locals : List (List ℕ)) (holes : ℕ) (arrays : List (List Lit)) (first : Option NameFault) →
    bits_taken s (taken_at (in_quotation before p (length locals) added at ∷ outer) Inside (a_phrase end) locals holes arrays first) (spell (is_cond s) ms ++ closes ∷ bits) ≡
    (let us = read_items (is_cond s) locals ms in
    let m = phrase_of s locals us arrays holes in
    bits_taken s (added_behind s added (taken_at outer at (with_item (quot m.phrase) p before) locals m.holes m.arrays (fold sooner first (items_faults s locals us)))) bits)
quotation_taken s ms bits h added at before p outer locals holes arrays first =
    let us = read_items (is_cond s) locals ms in
    let m = phrase_of s locals us arrays holes in
    inside_taken s ms bits h (in_quotation before p (length locals) added at) outer locals holes arrays first
    ∙ ap (λ (ls : List (List ℕ)). bits_taken s (added_behind s added (taken_at outer at (with_item (quot m.phrase) p before) ls m.holes m.arrays (fold sooner first (items_faults s locals us)))) bits) (kept_behind ms locals)

fresh_taken : (s : Scope) (ms : Nodes) (bits : List Bit) → ItemsTaken s ms → (before : Kept) (p : Place) (outer : List Around) (locals : List (List ℕ)) (holes : ℕ) (arrays : List (List Lit)) (first : Option NameFault) →
    bits_taken s (taken_at (in_fresh before p (length locals) holes ∷ outer) Inside (a_phrase end) locals 0 arrays first) (spell (is_cond s) ms ++ closes ∷ bits) ≡
    (let us = read_items (is_cond s) locals ms in
    let m = phrase_of s locals us arrays 0 in
    bits_taken s (taken_at outer Inside (with_fresh p m.phrase m.holes before) locals holes m.arrays (fold sooner first (items_faults s locals us))) bits)
fresh_taken s ms bits h before p outer locals holes arrays first =
    let us = read_items (is_cond s) locals ms in
    let m = phrase_of s locals us arrays 0 in
    inside_taken s ms bits h (in_fresh before p (length locals) holes) outer locals 0 arrays first
    ∙ ap (λ (ls : List (List ℕ)). bits_taken s (taken_at outer Inside (with_fresh p m.phrase m.holes before) ls holes m.arrays (fold sooner first (items_faults s locals us))) bits) (kept_behind ms locals)

array_taken_in : (s : Scope) (es : Nodes) (bits : List Bit) → ElementsTaken s es → (before : Kept) (p : Place) (outer : List Around) (locals : List (List ℕ)) (holes : ℕ) (arrays : List (List Lit)) (first : Option NameFault) →
    bits_taken s (taken_at (in_array before p locals holes ∷ outer) Inside (some_elements []) [] holes arrays first) (spell (is_cond s) es ++ closes ∷ bits) ≡
    (let us = read_elements (is_cond s) es in
    let m = elements_of s us arrays in
    bits_taken s (taken_at outer Inside (with_array p (length m.arrays) before) locals holes (m.arrays ++ m.elements ∷ []) (fold sooner first (items_faults s [] us))) bits)
array_taken_in s es bits h before p outer locals holes arrays first =
    fold-append (bit_taken s) (taken_at (in_array before p locals holes ∷ outer) Inside (some_elements []) [] holes arrays first) (spell (is_cond s) es) (closes ∷ bits)
    ∙ ap (λ (n : Taken). bits_taken s n (closes ∷ bits)) (h (in_array before p locals holes ∷ outer) [] holes arrays first)

-- a quotation before other items
quotation_before : (s : Scope) (ms ns : Nodes) (p : Place) → ItemsTaken s ms → ItemsTaken s ns → ItemsTaken s (more (n_quot ms p) ns)
quotation_before s ms ns p h k outer t locals holes arrays first =
    let us = read_items (is_cond s) locals ms in
    let m = phrase_of s locals us arrays holes in
    quotation_taken s ms (spell (is_cond s) ns) h None Inside (a_phrase t) p outer locals holes arrays first
    ∙ item_before s (quot m.phrase) p ns k outer t locals m.holes m.arrays first (items_faults s locals us)

fry_before : (s : Scope) (ms ns : Nodes) (p : Place) → ItemsTaken s ms → ItemsTaken s ns → ItemsTaken s (more (n_fry ms p) ns)
fry_before s ms ns p h k outer t locals holes arrays first =
    let us = read_items (is_cond s) locals ms in
    let m = phrase_of s locals us arrays 0 in
    fresh_taken s ms (spell (is_cond s) ns) h (a_phrase t) p outer locals holes arrays first
    ∙ item_before s (fry_item m.phrase m.holes) p ns k outer t locals holes m.arrays first (items_faults s locals us)

-- Inputs.

bound_at : (ts : List Tok) (earlier : List (List ℕ)) (n : Taken) → n.at ≡ Inside → (all_bound ts earlier n).at ≡ Inside
bound_at [] earlier n h = h
bound_at (t ∷ ts) earlier n h = bound_at ts (t.text ∷ earlier) n h

bind_inside : (s : Scope) (t : Tok) (twice : Bool) (p : Place) (n : Taken) → n.at ≡ Inside → bit_taken s n (leaf (n_bind t twice p)) ≡ bound_taken t twice p n
bind_inside s t twice p n h = ap (λ (a : At). leaf_at s a (n_bind t twice p) n) h

-- they are bound as if they were written
pub inputs_bound : (s : Scope) (ts : List Tok) (earlier : List (List ℕ)) (ms : Nodes) (n : Taken) → n.at ≡ Inside → bits_taken s n (spell (is_cond s) (bindings ts earlier ms)) ≡ bits_taken s (all_bound ts earlier n) (spell (is_cond s) ms)
inputs_bound s [] earlier ms n h = refl
inputs_bound s (t ∷ ts) earlier ms n h =
    let twice = is_among t.text earlier in
    inputs_bound s ts (t.text ∷ earlier) (more (n_bind t twice t.place) ms) n h
    ∙ ap (λ (x : Taken). bits_taken s x (spell (is_cond s) ms)) (bind_inside s t twice t.place (all_bound ts (t.text ∷ earlier) n) (bound_at ts (t.text ∷ earlier) n h))

pub bindings_taken : (s : Scope) (ts : List Tok) (earlier : List (List ℕ)) (ms : Nodes) → ItemsTaken s ms → ItemsTaken s (bindings ts earlier ms)
bindings_taken s [] earlier ms h = h
bindings_taken s (t ∷ ts) earlier ms h = bindings_taken s ts (t.text ∷ earlier) (more (n_bind t (is_among t.text earlier) t.place) ms) (bound_before_items s t (is_among t.text earlier) t.place ms h)

-- the bits of a quotation with inputs, as those of one in which they are bound
locals_spelled : (s : Scope) (ts : List Tok) (ms : Nodes) (bits : List Bit) (n : Taken) → n.at ≡ Inside → bits_taken s (all_bound ts [] n) (spell (is_cond s) ms ++ closes ∷ bits) ≡ bits_taken s n (spell (is_cond s) (bindings ts [] ms) ++ closes ∷ bits)
locals_spelled s ts ms bits n h =
    fold-append (bit_taken s) (all_bound ts [] n) (spell (is_cond s) ms) (closes ∷ bits)
    ∙ ap (λ (x : Taken). bits_taken s x (closes ∷ bits)) (sym (inputs_bound s ts [] ms n h))
    ∙ sym (fold-append (bit_taken s) n (spell (is_cond s) (bindings ts [] ms)) (closes ∷ bits))

locals_before : (s : Scope) (ts : List Tok) (ms ns : Nodes) (p : Place) → ItemsTaken s ms → ItemsTaken s ns → ItemsTaken s (more (n_locals ts ms p) ns)
locals_before s ts ms ns p h k outer t locals holes arrays first =
    let rs = read_items (is_cond s) locals ns in
    locals_spelled s ts ms (spell (is_cond s) ns) (taken_at (in_quotation (a_phrase t) p (length locals) None Inside ∷ outer) Inside (a_phrase end) locals holes arrays first) refl
    ∙ quotation_before s (bindings ts [] ms) ns p (bindings_taken s ts [] ms h) k outer t locals holes arrays first
    ∙ ap (λ (us : Nodes). with_made s outer t locals (locals_behind ns locals) (more (n_quot us p) rs) arrays holes first) (bindings_read (is_cond s) locals ts [] ms)

-- Items behind others.

phrase_joined : (s : Scope) (locals : List (List ℕ)) (us vs : Nodes) (arrays : List (List Lit)) (holes : ℕ) →
    phrase_of s locals (joined us vs) arrays holes ≡ (let m = phrase_of s locals us arrays holes in behind_phrase m.phrase (phrase_of s (locals_behind us locals) vs m.arrays m.holes))
phrase_joined s locals nothing vs arrays holes = refl
phrase_joined s locals (more n us) vs arrays holes =
    let i = item_of s locals n arrays holes in
    let m = phrase_of s (bound n locals) us i.arrays i.holes in
    let r = phrase_of s (locals_behind us (bound n locals)) vs m.arrays m.holes in
    ap (behind_phrase i.phrase) (phrase_joined s (bound n locals) us vs i.arrays i.holes)
    ∙ ap (λ (u : Phrase). record r { phrase = u }) (sym (append_three i.phrase m.phrase r.phrase))

faults_joined : (s : Scope) (locals : List (List ℕ)) (us vs : Nodes) → items_faults s locals (joined us vs) ≡ items_faults s locals us ++ items_faults s (locals_behind us locals) vs
faults_joined s locals nothing vs = refl
faults_joined s locals (more n us) vs = ap (λ (fs : List NameFault). item_faults s locals n ++ fs) (faults_joined s (bound n locals) us vs) ∙ sym (append_assoc (item_faults s locals n) (items_faults s (bound n locals) us) (items_faults s (locals_behind us (bound n locals)) vs))

-- items behind what stands for a `cond`, which binds no locals
cond_before : (s : Scope) (us vs : Nodes) (outer : List Around) (t : Phrase) (locals behind : List (List ℕ)) (holes : ℕ) (arrays : List (List Lit)) (first : Option NameFault) → locals_behind us locals ≡ locals →
    (let m = phrase_of s locals us arrays holes in with_made s outer (append t m.phrase) locals behind vs m.arrays m.holes (fold sooner first (items_faults s locals us))) ≡ with_made s outer t locals behind (joined us vs) arrays holes first
cond_before s us vs outer t locals behind holes arrays first same =
    let m = phrase_of s locals us arrays holes in
    let r = phrase_of s locals vs m.arrays m.holes in
    let fs = items_faults s locals us in
    ap (λ (u : Phrase). taken_at outer Inside (a_phrase u) behind r.holes r.arrays (fold sooner (fold sooner first fs) (items_faults s locals vs))) (append_three t m.phrase r.phrase)
    ∙ ap (λ (o : Option NameFault). taken_at outer Inside (a_phrase (append t (append m.phrase r.phrase))) behind r.holes r.arrays o) (sym (fold-append sooner first fs (items_faults s locals vs)))
    ∙ ap (λ (x : Made). taken_at outer Inside (a_phrase (append t x.phrase)) behind x.holes x.arrays (fold sooner first (fs ++ items_faults s locals vs)))
    (sym (phrase_joined s locals us vs arrays holes ∙ ap (λ (ls : List (List ℕ)). behind_phrase m.phrase (phrase_of s ls vs m.arrays m.holes)) same))
    ∙ ap (λ (gs : List NameFault). taken_at outer Inside (a_phrase (append t (phrase_of s locals (joined us vs) arrays holes).phrase)) behind (phrase_of s locals (joined us vs) arrays holes).holes (phrase_of s locals (joined us vs) arrays holes).arrays (fold sooner first gs))
    (sym (faults_joined s locals us vs ∙ ap (λ (ls : List (List ℕ)). fs ++ items_faults s ls vs) same))

pairs_bind : (c : List ℕ → Bool) (locals : List (List ℕ)) (p : Place) (es : Nodes) → are_pairs es ≡ true → locals_behind (read_pairs c locals p es) locals ≡ locals
pairs_bind c locals p nothing h = refl
pairs_bind c locals p (more (n_quot d q) nothing) h = refl
pairs_bind c locals p (more (n_array (more (n_quot ts q) (more (n_quot bs r) nothing)) z) es) h = refl
pairs_bind c locals p (more n es) h = absurd (cc)

-- Pairs.

-- what pairs before a `cond` at a place come to, behind so many of them
abbrev PairsTaken : Scope → Nodes → Type 0
PairsTaken s es = (outer : List Around) (p : Place) (k : ℕ) (t : Phrase) (locals : List (List ℕ)) (holes : ℕ) (arrays : List (List Lit)) (first : Option NameFault) (x : Node) (bits : List Bit) →
    bits_taken s (taken_at outer (Cases p Between k) (a_phrase t) locals holes arrays first) (spell (is_cond s) es ++ closes ∷ leaf x ∷ bits) ≡
    (let us = read_pairs (is_cond s) locals p es in bits_taken s (closed_times s k (with_made s outer t locals locals us arrays holes first)) bits)

no_pairs : (s : Scope) → PairsTaken s nothing
no_pairs s outer p k t locals holes arrays first x bits = refl

last_pairs : (s : Scope) (ms : Nodes) (q : Place) → ItemsTaken s ms → PairsTaken s (more (n_quot ms q) nothing)
last_pairs s ms q h outer p k t locals holes arrays first x bits =
    let us = read_items (is_cond s) locals ms in
    let m = phrase_of s locals us arrays holes in
    let o = in_last (length locals) (Cases p BehindLast k) in
    ap (λ (bs : List Bit). bits_taken s (taken_at (o ∷ outer) Inside (a_phrase t) locals holes arrays first) bs) (append_assoc (spell (is_cond s) ms) (closes ∷ []) (closes ∷ leaf x ∷ bits))
    ∙ fold-append (bit_taken s) (taken_at (o ∷ outer) Inside (a_phrase t) locals holes arrays first) (spell (is_cond s) ms) (closes ∷ closes ∷ leaf x ∷ bits)
    ∙ ap (λ (n : Taken). bits_taken s n (closes ∷ closes ∷ leaf x ∷ bits)) (h (o ∷ outer) t locals holes arrays first)
    ∙ ap (λ (ls : List (List ℕ)). bits_taken s (closed_times s k (taken_at outer Inside (a_phrase (append t m.phrase)) ls m.holes m.arrays (fold sooner first (items_faults s locals us)))) bits) (kept_behind ms locals)
    ∙ ap (λ (u : Phrase). bits_taken s (closed_times s k (taken_at outer Inside (a_phrase (append t u)) locals m.holes m.arrays (fold sooner first (items_faults s locals us)))) bits) (sym (append_end m.phrase))
    ∙ ap (λ (fs : List NameFault). bits_taken s (closed_times s k (taken_at outer Inside (a_phrase (append t (append m.phrase end))) locals m.holes m.arrays (fold sooner first fs))) bits) (sym (append-nil (items_faults s locals us)))

five_items : (t : Phrase) (a b c d e : Item) (p q r u v : Place) →
    append (append (append (append (append t (placed a p end)) (placed b q end)) (placed c r end)) (placed d u end)) (placed e v end) ≡ append t (placed a p (placed b q (placed c r (placed d u (placed e v end)))))
five_items end a b c d e p q r u v = refl
five_items (placed i x t) a b c d e p q r u v = ap (placed i x) (five_items t a b c d e p q r u v)

three_faults : (first : Option NameFault) (fs gs hs : List NameFault) → fold sooner (fold sooner (fold sooner first fs) gs) hs ≡ fold sooner first (fs ++ (gs ++ (hs ++ [])))
three_faults first fs gs hs =
    sym (ap (λ (xs : List NameFault). fold sooner first (fs ++ (gs ++ xs))) (append-nil hs)
    ∙ fold-append sooner first fs (gs ++ hs)
    ∙ fold-append sooner (fold sooner first fs) gs hs)

pair_bits : (xs ys zs bits : List Bit) (r : Place) (x : Node) →
    ((xs ++ closes ∷ (opens Quotation r ∷ (ys ++ closes ∷ []))) ++ closes ∷ zs) ++ closes ∷ leaf x ∷ bits ≡ xs ++ closes ∷ (opens Quotation r ∷ (ys ++ closes ∷ (closes ∷ (zs ++ closes ∷ leaf x ∷ bits))))
pair_bits xs ys zs bits r x = simp append_assoc

more_pairs : (s : Scope) (ts bs es : Nodes) (q r z : Place) → ItemsTaken s ts → ItemsTaken s bs → PairsTaken s es → PairsTaken s (more (n_array (more (n_quot ts q) (more (n_quot bs r) nothing)) z) es)
more_pairs s ts bs es q r z h k rest outer p n t locals holes arrays first x bits =
    let c = is_cond s in
    let us = read_items c locals ts in
    let vs = read_items c locals bs in
    let ws = read_pairs c locals p es in
    let m = phrase_of s locals us arrays holes in
    let f = fold sooner first (items_faults s locals us) in
    let m2 = phrase_of s locals vs m.arrays m.holes in
    let f2 = fold sooner f (items_faults s locals vs) in
    let m3 = phrase_of s locals ws m2.arrays m2.holes in
    let f3 = fold sooner f2 (items_faults s locals ws) in
    let called = append (append t (placed (quot m.phrase) q end)) (placed (added_item s add.Call) p end) in
    let both = append called (placed (quot m2.phrase) r end) in
    let behind = closes ∷ (spell c es ++ closes ∷ leaf x ∷ bits) in
    let inner = in_quotation (a_phrase both) p (length locals) (Some ((add.If, p))) Inside in
    ap (λ (ds : List Bit). bits_taken s (taken_at (in_quotation (a_phrase t) q (length locals) (Some ((add.Call, p))) (Cases p BeforeSecond n) ∷ outer) Inside (a_phrase end) locals holes arrays first) ds) (pair_bits (spell c ts) (spell c bs) (spell c es) bits r x)
    ∙ quotation_taken s ts (opens Quotation r ∷ (spell c bs ++ closes ∷ behind)) h (Some ((add.Call, p))) (Cases p BeforeSecond n) (a_phrase t) q outer locals holes arrays first
    ∙ quotation_taken s bs behind k None (Cases p BehindSecond n) (a_phrase called) r outer locals m.holes m.arrays f
    ∙ rest (inner ∷ outer) p (suc n) end locals m2.holes m2.arrays f2 x bits
    ∙ ap (λ (ls : List (List ℕ)). bits_taken s (closed_times s n (taken_at outer Inside (a_phrase (append (append both (placed (quot m3.phrase) p end)) (placed (added_item s add.If) p end))) ls m3.holes m3.arrays f3)) bits) (kept_behind nothing locals)
    ∙ ap (λ (u : Phrase). bits_taken s (closed_times s n (taken_at outer Inside (a_phrase u) locals m3.holes m3.arrays f3)) bits) (five_items t (quot m.phrase) (added_item s add.Call) (quot m2.phrase) (quot m3.phrase) (added_item s add.If) q p r p p)
    ∙ ap (λ (o : Option NameFault). bits_taken s (closed_times s n (taken_at outer Inside (a_phrase (append t (placed (quot m.phrase) q (placed (added_item s add.Call) p (placed (quot m2.phrase) r (placed (quot m3.phrase) p (placed (added_item s add.If) p end))))))) locals m3.holes m3.arrays o)) bits) (three_faults first (items_faults s locals us) (items_faults s locals vs) (items_faults s locals ws))

-- Arrays before items.

-- what is known of items, and of those behind the first of them
pub record BothTaken (s : Scope) (ns : Nodes) : Type 0 where
  pub here : ItemsTaken s ns
  pub behind : ItemsTaken s (behind_first ns)

-- where a `cond` reads the array
cond_taken : (s : Scope) (es ms : Nodes) (x : Tok) (y p : Place) → are_pairs es ≡ true → PairsTaken s es → ItemsTaken s ms → (outer : List Around) (t : Phrase) (locals : List (List ℕ)) (holes : ℕ) (arrays : List (List Lit)) (first : Option NameFault) →
    bits_taken s (taken_at outer (Cases p Between 0) (a_phrase t) locals holes arrays first) (spell (is_cond s) es ++ closes ∷ leaf (n_name x y) ∷ spell (is_cond s) ms) ≡
    with_made s outer t locals (locals_behind ms locals) (joined (read_pairs (is_cond s) locals p es) (read_items (is_cond s) locals ms)) arrays holes first
cond_taken s es ms x y p pairs h k outer t locals holes arrays first =
    let c = is_cond s in
    let us = read_pairs c locals p es in
    let m = phrase_of s locals us arrays holes in
    h outer p 0 t locals holes arrays first (n_name x y) (spell c ms)
    ∙ k outer (append t m.phrase) locals m.holes m.arrays (fold sooner first (items_faults s locals us))
    ∙ cond_before s us (read_items c locals ms) outer t locals (locals_behind ms locals) holes arrays first (pairs_bind c locals p es pairs)

-- an array, where the place of a `cond` behind it is this
abbrev ArrayTaken : Scope → Nodes → Place → Nodes → List Around → Phrase → List (List ℕ) → ℕ → List (List Lit) → Option NameFault → Option Place → Type 0
ArrayTaken s es q ns outer t locals holes arrays first o =
    bits_taken s (array_or_cases o q (taken_at outer Inside (a_phrase t) locals holes arrays first)) (spell (is_cond s) es ++ closes ∷ spell (is_cond s) ns) ≡
    with_made s outer t locals (locals_behind ns locals) (with_pairs (is_cond s) locals es q (read_items (is_cond s) locals ns) o) arrays holes first

array_by : (s : Scope) (es ns : Nodes) (q : Place) → ElementsTaken s es → (are_pairs es ≡ true → PairsTaken s es) → BothTaken s ns → (outer : List Around) (t : Phrase) (locals : List (List ℕ)) (holes : ℕ) (arrays : List (List Lit)) (first : Option NameFault) (o : Option Place) →
    cond_place locals (mark (is_cond s) es ns) ≡ o → ArrayTaken s es q ns outer t locals holes arrays first o
array_by s es ns q h pairs both outer t locals holes arrays first None e =
    let us = read_elements (is_cond s) es in
    let m = elements_of s us arrays in
    array_taken_in s es (spell (is_cond s) ns) h (a_phrase t) q outer locals holes arrays first
    ∙ item_before s (lit_arr (length m.arrays)) q ns both.here outer t locals holes (m.arrays ++ m.elements ∷ []) first (items_faults s [] us)
array_by s es ns q h pairs both outer t locals holes arrays first (Some p) e =
    let b = name_before (is_cond s) locals es ns p e in
    let k = pairs_before (is_cond s) locals es ns p e in
    subst (λ (x : Nodes). ItemsTaken s (behind_first x) → ArrayTaken s es q x outer t locals holes arrays first (Some p)) (sym b.is) (λ rest. cond_taken s es b.rest b.name b.place p k (pairs k) rest outer t locals holes arrays first) both.behind

array_before : (s : Scope) (fry : Bool) (es ns : Nodes) (q : Place) → AreRaw fry ns → ElementsTaken s es → (are_pairs es ≡ true → PairsTaken s es) → BothTaken s ns → ItemsTaken s (more (n_array es q) ns)
array_before s fry es ns q raw h pairs both outer t locals holes arrays first =
    array_by s es ns q h pairs both outer t locals holes arrays first (cond_place locals (mark (is_cond s) es ns)) refl
    ∙ ap (λ (o : Option Place). with_made s outer t locals (locals_behind ns locals) (with_pairs (is_cond s) locals es q (read_items (is_cond s) locals ns) o) arrays holes first) (sym (cond_is (is_cond s) locals fry es ns raw))

-- Elements of arrays.

-- an element before others, with its refusals
element_before : (s : Scope) (l : Lit) (es : Nodes) → ElementsTaken s es → (outer : List Around) (ls : List Lit) (holes : ℕ) (arrays : List (List Lit)) (first : Option NameFault) (fs : List NameFault) →
    bits_taken s (taken_at outer Inside (some_elements (ls ++ l ∷ [])) [] holes arrays (fold sooner first fs)) (spell (is_cond s) es) ≡
    (let us = read_elements (is_cond s) es in let m = elements_of s us arrays in taken_at outer Inside (some_elements (ls ++ l ∷ m.elements)) [] holes m.arrays (fold sooner first (fs ++ items_faults s [] us)))
element_before s l es h outer ls holes arrays first fs =
    let us = read_elements (is_cond s) es in
    let m = elements_of s us arrays in
    h outer (ls ++ l ∷ []) holes arrays (fold sooner first fs)
    ∙ ap (λ (xs : List Lit). taken_at outer Inside (some_elements xs) [] holes m.arrays (fold sooner (fold sooner first fs) (items_faults s [] us))) (append_assoc ls (l ∷ []) m.elements)
    ∙ ap (λ (o : Option NameFault). taken_at outer Inside (some_elements (ls ++ l ∷ m.elements)) [] holes m.arrays o) (sym (fold-append sooner first fs (items_faults s [] us)))

mutual
  pub items_taken : (s : Scope) (fry : Bool) (ns : Nodes) → AreRaw fry ns → BothTaken s ns
  items_taken s fry nothing h =
      record {
        here = λ outer t locals holes arrays first. ap (λ (u : Phrase). taken_at outer Inside (a_phrase u) locals holes arrays first) (sym (append_end t));
        behind = λ outer t locals holes arrays first. ap (λ (u : Phrase). taken_at outer Inside (a_phrase u) locals holes arrays first) (sym (append_end t));
      }
  items_taken s fry (more (n_lit l p) ns) h =
      let both = items_taken s fry ns h.1 in record { here = λ outer t locals holes arrays first. item_before s (lit l) p ns both.here outer t locals holes arrays first []; behind = both.here }
  items_taken s fry (more (n_name x p) ns) h = let both = items_taken s fry ns h.1 in record { here = name_before_items s x p ns both.here; behind = both.here }
  items_taken s fry (more (n_ref x p) ns) h =
      let both = items_taken s fry ns h.1 in
      record { here = λ outer t locals holes arrays first. item_before s (lit (wrd (word_of s x))) p ns both.here outer t locals holes arrays first (search_fault s x); behind = both.here }
  items_taken s fry (more (n_call_effect e p) ns) h =
      let both = items_taken s fry ns h.1 in record { here = λ outer t locals holes arrays first. item_before s (call_effect e) p ns both.here outer t locals holes arrays first []; behind = both.here }
  items_taken s fry (more (n_execute_effect e p) ns) h =
      let both = items_taken s fry ns h.1 in record { here = λ outer t locals holes arrays first. item_before s (execute_effect e) p ns both.here outer t locals holes arrays first []; behind = both.here }
  items_taken s fry (more (n_next p) ns) h =
      let both = items_taken s fry ns h.1 in record { here = λ outer t locals holes arrays first. item_before s next_method p ns both.here outer t locals holes arrays first []; behind = both.here }
  items_taken s fry (more (n_bind x twice p) ns) h = let both = items_taken s fry ns h.1 in record { here = bound_before_items s x twice p ns both.here; behind = both.here }
  items_taken s fry (more (n_hole p) ns) h =
      let both = items_taken s fry ns h.1 in record { here = λ outer t locals holes arrays first. item_before s (hole holes) p ns both.here outer t locals (suc holes) arrays first []; behind = both.here }
  items_taken s fry (more (n_at p) ns) h = let both = items_taken s fry ns h.1 in record { here = hole_called s p ns both.here; behind = both.here }
  items_taken s fry (more (n_quot ms p) ns) h = let both = items_taken s fry ns h.1 in let inner = items_taken s fry ms h.0 in record { here = quotation_before s ms ns p inner.here both.here; behind = both.here }
  items_taken s fry (more (n_fry ms p) ns) h = let both = items_taken s fry ns h.1 in let inner = items_taken s true ms h.0 in record { here = fry_before s ms ns p inner.here both.here; behind = both.here }
  items_taken s fry (more (n_locals ts ms p) ns) h = let both = items_taken s fry ns h.1 in let inner = items_taken s fry ms h.0 in record { here = locals_before s ts ms ns p inner.here both.here; behind = both.here }
  items_taken s fry (more (n_array es q) ns) h =
      let both = items_taken s fry ns h.1 in record { here = array_before s fry es ns q h.1 (elements_taken s es h.0) (λ pairs. pairs_taken s es h.0 pairs) both; behind = both.here }
  items_taken s fry (more n ns) h = absurd h.0

  elements_taken : (s : Scope) (es : Nodes) → AreRawElements es → ElementsTaken s es
  elements_taken s nothing h outer ls holes arrays first = ap (λ (xs : List Lit). taken_at outer Inside (some_elements xs) [] holes arrays first) (sym (append-nil ls))
  elements_taken s (more (n_lit l p) es) h outer ls holes arrays first = element_before s (literal l) es (elements_taken s es h.1) outer ls holes arrays first []
  elements_taken s (more (n_ref x p) es) h outer ls holes arrays first = element_before s (literal_is.Wref (word_of s x)) es (elements_taken s es h.1) outer ls holes arrays first (search_fault s x)
  elements_taken s (more (n_name x p) es) h outer ls holes arrays first = element_before s (literal_is.Wref (word_of s x)) es (elements_taken s es h.1) outer ls holes arrays first (search_fault s x)
  elements_taken s (more (n_quot ms p) es) h outer ls holes arrays first =
      let inner = items_taken s false ms h.0 in
      let us = read_items (is_cond s) [] ms in
      let m = phrase_of s [] us arrays 0 in
      fresh_taken s ms (spell (is_cond s) es) inner.here (some_elements ls) p outer [] holes arrays first
      ∙ element_before s (literal_is.Quot m.phrase) es (elements_taken s es h.1) outer ls holes m.arrays first (items_faults s [] us)
  elements_taken s (more (n_array xs p) es) h outer ls holes arrays first =
      let us = read_elements (is_cond s) xs in
      let m = elements_of s us arrays in
      array_taken_in s xs (spell (is_cond s) es) (elements_taken s xs h.0) (some_elements ls) p outer [] holes arrays first
      ∙ element_before s (literal_is.Arr (length m.arrays)) es (elements_taken s es h.1) outer ls holes (m.arrays ++ m.elements ∷ []) first (items_faults s [] us)
  elements_taken s (more n es) h outer ls holes arrays first = absurd h.0

  pairs_taken : (s : Scope) (es : Nodes) → AreRawElements es → are_pairs es ≡ true → PairsTaken s es
  pairs_taken s nothing h k = no_pairs s
  pairs_taken s (more (n_quot ms q) nothing) h k = let inner = items_taken s false ms h.0 in last_pairs s ms q inner.here
  pairs_taken s (more (n_array (more (n_quot ts q) (more (n_quot bs r) nothing)) z) es) h k =
      let one = items_taken s false ts h.0.0 in let two = items_taken s false bs h.0.1.0 in more_pairs s ts bs es q r z one.here two.here (pairs_taken s es h.1 k)
  pairs_taken s (more n es) h k = absurd (cc)
