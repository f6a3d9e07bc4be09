-- Lines of parents that are taken from line to line.
use Rattle.std.proofs.Common.{◌≡◌, ◌<◌, ◌≤◌, ◌+◌, ◌⊎◌, inl, inr, ℕ, zero, suc, nat_eq, List, [], ◌∷◌, ◌++◌, length, slice_get, Option, Some, None, Bool, true, false, Result, Ok, Err, refl, ap, sym, ◌∙◌, subst, arith, append-nil}
use Rattle.std.specs.Prelude.{nat_lt, if◌then◌else◌, IfOk}
use Rattle.std.specs.List.{list_any}
use Rattle.fac_base.specs.declared.memory.Memory.{Memory}
use Rattle.fac_lang.specs.Classes.{shape_at, parent_in, slots_within}
use Rattle.fac_lang.specs.declared.program.ClassDef.{ClassDef}
use Rattle.fac_endings.specs.ClassTable.{inherited, parents, parents_from, slots_at}
use Rattle.fac_endings.specs.LastRefusals.{most_slots}
use Rattle.fac_endings.specs.inner.Chains.{slots_of}
use Rattle.fac_endings.specs.inner.Finishes.{AreSlotsSoFar, line, or_none, slots_above, slots_last}
use Rattle.fac_endings.specs.inner.Lines.{AreLines, AreSettled, GoesUnder, HasLine, IsLine, IsSettled, Line, and_bearer, flag_in, heir, line_at, topmost}
use Rattle.fac_endings.proofs.Apart.{or_false}
use Rattle.fac_endings.proofs.FinishLemmas.{push_at, slots_line}
use Rattle.fac_endings.proofs.ListLemmas.{none_past}

-- A class in front of others.

bearer_slots : (cs : List ClassDef) (p : ℕ) (bs : List ℕ) (slots : List (List ℕ)) → slots_at cs p ≡ slots → slots_of cs (and_bearer slots p bs) ≡ slots ++ slots_of cs bs
bearer_slots cs p bs [] is = refl
bearer_slots cs p bs (s ∷ slots) is = ap (λ (xs : List (List ℕ)). xs ++ slots_of cs bs) is

bearer_last : (cs : List ClassDef) (p : ℕ) (bs : List ℕ) (slots : List (List ℕ)) → slots_at cs p ≡ slots → slots_last cs (and_bearer slots p bs) ≡ slots_last cs bs ++ slots
bearer_last cs p bs [] is = sym (append-nil (slots_last cs bs))
bearer_last cs p bs (s ∷ slots) is = ap (λ (xs : List (List ℕ)). slots_last cs bs ++ xs) is

bearer_front : (slots : List (List ℕ)) (p : ℕ) (bs : List ℕ) → and_bearer slots p [] ++ bs ≡ and_bearer slots p bs
bearer_front [] p bs = refl
bearer_front (s ∷ slots) p bs = refl

pub no_slots : (slots : List (List ℕ)) (p : ℕ) → length slots ≡ 0 → [] ≡ and_bearer slots p []
no_slots [] p h = refl
no_slots (s ∷ slots) p h = cc

pub some_slots : (slots : List (List ℕ)) (p : ℕ) → (length slots ≡ 0 → ⊥) → p ∷ [] ≡ and_bearer slots p []
some_slots [] p h = absurd (h refl)
some_slots (s ∷ slots) p h = refl

-- a line under a parent, in two parts
pub put_together : (slots : List (List ℕ)) (p : ℕ) (line above all : List ℕ) → line ≡ and_bearer slots p [] → all ≡ line ++ above → all ≡ and_bearer slots p above
put_together slots p line above all is more = more ∙ ap (λ (xs : List ℕ). xs ++ above) is ∙ bearer_front slots p above

-- What a line tells of the slots of its class.

line_last : (n : ℕ) (cs : List ClassDef) (c : ℕ) (bs : List ℕ) → c < n → Line cs c bs → slots_last cs (line n cs (Some c)) ≡ slots_last cs bs ++ slots_at cs c
line_last zero cs c bs few h = absurd (omega (arith, few))
line_last (suc n) cs c bs few (topmost is none) =
    ap (λ (o : Option ℕ). slots_last cs (line n cs o) ++ slots_at cs c) is
    ∙ ap (λ (xs : List ℕ). slots_last cs xs ++ slots_at cs c) (sym none)
line_last (suc n) cs c bs few (heir p above is less up same) =
    let rest : slots_last cs (line n cs (Some p)) ≡ slots_last cs above ++ slots_at cs p = line_last n cs p above (omega (arith, few, less)) up in
    ap (λ (o : Option ℕ). slots_last cs (line n cs o) ++ slots_at cs c) is
    ∙ ap (λ (xs : List (List ℕ)). xs ++ slots_at cs c) (rest ∙ sym (bearer_last cs p above (slots_at cs p) refl) ∙ ap (slots_last cs) (sym same))

line_within : (cs : List ClassDef) (c : ℕ) (bs : List ℕ) → c < length cs → Line cs c bs → slots_within (length cs) cs c ≡ slots_last cs bs ++ slots_at cs c
line_within cs c bs there h = slots_line (length cs) cs c ∙ line_last (length cs) cs c bs there h

not_same : (p c : ℕ) → p < c → nat_eq p c ≡ false
not_same p c h = grind arith

line_parents : (n : ℕ) (cs : List ClassDef) (met : List ℕ) (c : ℕ) (bs : List ℕ) → c ≤ n → ((p : ℕ) → p < c → list_any (nat_eq p) met ≡ false) → Line cs c bs → slots_of cs (parents n cs met c) ≡ slots_of cs bs
line_parents zero cs met c bs few new (topmost is none) = ap (slots_of cs) (sym none)
line_parents zero cs met c bs few new (heir p above is less up same) = absurd (omega (arith, few, less))
line_parents (suc n) cs met c bs few new (topmost is none) =
    ap (λ (o : Option ℕ). slots_of cs (parents_from met (λ q. parents n cs (q ∷ met) q) o)) is
    ∙ ap (slots_of cs) (sym none)
line_parents (suc n) cs met c bs few new (heir p above is less up same) =
    let newer : (q : ℕ) → q < p → list_any (nat_eq q) (p ∷ met) ≡ false = λ q lower. or_false (nat_eq q p) (list_any (nat_eq q) met) (not_same q p lower) (new q (omega (arith, lower, less))) in
    ap (λ (o : Option ℕ). slots_of cs (parents_from met (λ q. parents n cs (q ∷ met) q) o)) is
    ∙ ap (λ (b : Bool). slots_of cs (if b then [] else p ∷ parents n cs (p ∷ met) p)) (new p less)
    ∙ ap (λ (xs : List (List ℕ)). slots_at cs p ++ xs) (line_parents n cs (p ∷ met) p above (omega (arith, few, less)) newer up)
    ∙ sym (bearer_slots cs p above (slots_at cs p) refl)
    ∙ ap (slots_of cs) (sym same)

pub line_inherited : (cs : List ClassDef) (c : ℕ) (bs : List ℕ) → c < length cs → Line cs c bs → slots_of cs bs ≡ inherited cs c
line_inherited cs c bs there h = sym (line_parents (length cs) cs (c ∷ []) c bs (omega (arith, there)) (λ p lower. or_false (nat_eq p c) false (not_same p c lower) refl) h)

pub line_many : (cs : List ClassDef) (c own : ℕ) (bs : List ℕ) → c < length cs → Line cs c bs → true ≡ nat_lt most_slots (own + length (slots_of cs bs)) → nat_lt most_slots (own + length (inherited cs c)) ≡ true
line_many cs c own bs there h many = ap (λ (xs : List (List ℕ)). nat_lt most_slots (own + length xs)) (sym (line_inherited cs c bs there h)) ∙ sym many

pub line_few : (cs : List ClassDef) (c own : ℕ) (bs copy : List ℕ) → c < length cs → Line cs c bs → false ≡ nat_lt most_slots (own + length (slots_of cs bs)) → copy ≡ bs → (nat_lt most_slots (own + length (inherited cs c)) ≡ false) × (slots_of cs copy ≡ inherited cs c)
line_few cs c own bs copy there h few same =
    let all = line_inherited cs c bs there h in
    (ap (λ (xs : List (List ℕ)). nat_lt most_slots (own + length xs)) (sym all) ∙ sym few, ap (slots_of cs) same ∙ all)

-- A table of lines.

line_there : (lines : List (Option (List ℕ))) (p : ℕ) (bs : List ℕ) → line_at lines p ≡ Some bs → p < length lines
line_there [] p bs h = cc
line_there (l ∷ lines) zero bs h = omega arith
line_there (l ∷ lines) (suc p) bs h = let rest = line_there lines p bs h in omega (arith, rest)

-- the line of the next class, under that of its parent
pub next_under : (r : Result (Option (List ℕ)) Memory) (cs : List ClassDef) (lines : List (Option (List ℕ))) (c p : ℕ) (above : List ℕ) → parent_in (shape_at cs c) ≡ Some p → line_at lines p ≡ Some above → AreLines cs c lines → IfOk r (GoesUnder cs p above) → IfOk r (IsLine cs c)
next_under (Err fault) cs lines c p above is at h made = tt
next_under (Ok None) cs lines c p above is at h made = tt
next_under (Ok (Some bs)) cs lines c p above is at h made =
    let there = line_there lines p above at in
    let counted = h.counted in
    heir p above is (omega (arith, there, counted)) (h.each p above at) made

pub next_topmost : (cs : List ClassDef) (c : ℕ) (line : List ℕ) → parent_in (shape_at cs c) ≡ None → line ≡ [] → Line cs c line
next_topmost cs c line is none = topmost is none

length_more : {A : Type 0} (xs : List A) (x : A) → length (xs ++ x ∷ []) ≡ length xs + 1
length_more [] x = refl
length_more (y ∷ xs) x = let rest = length_more xs x in omega (arith, rest)

line_pushed : (lines : List (Option (List ℕ))) (line : Option (List ℕ)) (c : ℕ) (bs : List ℕ) → line_at (lines ++ line ∷ []) c ≡ Some bs → ((c ≡ length lines) × (line ≡ Some bs)) ⊎ (line_at lines c ≡ Some bs)
line_pushed [] line zero bs h = inl (refl, h)
line_pushed [] line (suc c) bs h = absurd (cc)
line_pushed (l ∷ lines) line zero bs h = inr h
line_pushed (l ∷ lines) line (suc c) bs h = elim (line_pushed lines line c bs h) [ inl p ↦ inl (ap suc p.0, p.1) | inr q ↦ inr q ]

pub lines_more : (cs : List ClassDef) (n : ℕ) (lines next : List (Option (List ℕ))) (line : Option (List ℕ)) → AreLines cs n lines → IsLine cs n line → next ≡ lines ++ line ∷ [] → AreLines cs (n + 1) next
lines_more cs n lines next line h is pushed =
    subst (AreLines cs (n + 1)) (sym pushed) (record {
      counted = length_more lines line ∙ ap (λ (k : ℕ). k + 1) h.counted;
      each = λ c bs at. elim (line_pushed lines line c bs at) [
        | inl p ↦ subst (λ (k : ℕ). Line cs k bs) (sym (p.0 ∙ h.counted)) (subst (IsLine cs n) p.1 is)
        | inr q ↦ h.each c bs q
      ];
    })

-- Flags of classes that have lines.

flag_there : (flags : List Bool) (p : ℕ) (b : Bool) → slice_get flags p ≡ Some b → p < length flags
flag_there [] p b h = cc
flag_there (f ∷ flags) zero b h = omega arith
flag_there (f ∷ flags) (suc p) b h = let rest = flag_there flags p b h in omega (arith, rest)

settles_by : (o : Option Bool) (cs : List ClassDef) (flags : List Bool) (c p : ℕ) → parent_in (shape_at cs c) ≡ Some p → AreSettled cs c flags → slice_get flags p ≡ o → IsSettled cs c (flag_in o)
settles_by None cs flags c p is h at = tt
settles_by (Some false) cs flags c p is h at = tt
settles_by (Some true) cs flags c p is h at =
    let there = flag_there flags p true at in
    let counted = h.counted in
    let up = h.each p at in
    (and_bearer (slots_at cs p) p up.0, heir p up.0 is (omega (arith, there, counted)) up.1 refl)

pub settles_under : (cs : List ClassDef) (flags : List Bool) (c p : ℕ) (b : Bool) → parent_in (shape_at cs c) ≡ Some p → AreSettled cs c flags → b ≡ flag_in (slice_get flags p) → IsSettled cs c b
settles_under cs flags c p b is h at = subst (IsSettled cs c) (sym at) (settles_by (slice_get flags p) cs flags c p is h refl)

pub settles_topmost : (cs : List ClassDef) (c : ℕ) → parent_in (shape_at cs c) ≡ None → HasLine cs c
settles_topmost cs c is = ([], topmost is refl)

pub flags_more : (cs : List ClassDef) (n : ℕ) (flags next : List Bool) (b : Bool) → AreSettled cs n flags → IsSettled cs n b → next ≡ flags ++ b ∷ [] → AreSettled cs (n + 1) next
flags_more cs n flags next b h is pushed =
    subst (AreSettled cs (n + 1)) (sym pushed) (record {
      counted = length_more flags b ∙ ap (λ (k : ℕ). k + 1) h.counted;
      each = λ c at. elim (push_at flags b true c at) [
        | inl p ↦ subst (HasLine cs) (sym (p.0 ∙ h.counted)) (subst (IsSettled cs n) p.1 is)
        | inr q ↦ h.each c q
      ];
    })

flag_up : (o : Option Bool) → true ≡ flag_in o → o ≡ Some true
flag_up None h = cc
flag_up (Some false) h = cc
flag_up (Some true) h = refl

-- The slots of a class, by the table of those before it.

listed_there : (o : Option (List (List ℕ))) (cs : List ClassDef) (table : List (List (List ℕ))) (n p : ℕ) → AreSlotsSoFar cs n table → p < n → slice_get table p ≡ o → or_none o ≡ slots_within (length cs) cs p
listed_there (Some slots) cs table n p h low at = h.each p slots at
listed_there None cs table n p h low at =
    let past = none_past table p at in
    let counted = h.counted in
    absurd (omega (arith, past, counted, low))

above_is : (cs : List ClassDef) (table : List (List (List ℕ))) (c : ℕ) (bs : List ℕ) → AreSlotsSoFar cs c table → c < length cs → Line cs c bs → slots_above table (parent_in (shape_at cs c)) ≡ slots_last cs bs
above_is cs table c bs h there (topmost is none) = ap (slots_above table) is ∙ ap (slots_last cs) (sym none)
above_is cs table c bs h there (heir p above is less up same) =
    ap (slots_above table) is
    ∙ listed_there (slice_get table p) cs table c p h less refl
    ∙ line_within cs p above (omega (arith, there, less)) up
    ∙ sym (bearer_last cs p above (slots_at cs p) refl)
    ∙ ap (slots_last cs) (sym same)

below_is : (cs : List ClassDef) (table : List (List (List ℕ))) (c : ℕ) → AreSlotsSoFar cs c table → c < length cs → HasLine cs c → slots_above table (parent_in (shape_at cs c)) ++ slots_at cs c ≡ slots_within (length cs) cs c
below_is cs table c h there up =
    ap (λ (xs : List (List ℕ)). xs ++ slots_at cs c) (above_is cs table c up.0 h there up.1)
    ∙ sym (line_within cs c up.0 there up.1)

pub slots_below : (r : Result (List (List ℕ)) Memory) (cs : List ClassDef) (flags : List Bool) (table : List (List (List ℕ))) (c : ℕ) (above own : List (List ℕ)) → AreSettled cs (length cs) flags → AreSlotsSoFar cs c table → c < length cs → true ≡ flag_in (slice_get flags c) →
    above ≡ slots_above table (parent_in (shape_at cs c)) → own ≡ slots_at cs c → IfOk r (λ (slots : List (List ℕ)). slots ≡ above ++ own) → IfOk r (λ (slots : List (List ℕ)). slots ≡ slots_within (length cs) cs c)
slots_below (Err fault) cs flags table c above own settled h there up above_at own_at made = tt
slots_below (Ok slots) cs flags table c above own settled h there up above_at own_at made =
    made ∙ ap (λ (xs : List (List ℕ)). xs ++ own) above_at ∙ ap (λ (xs : List (List ℕ)). slots_above table (parent_in (shape_at cs c)) ++ xs) own_at
    ∙ below_is cs table c h there (settled.each c (flag_up (slice_get flags c) up))
