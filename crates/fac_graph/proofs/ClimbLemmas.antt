-- Each step up from a class and back down keeps what is known.
use Rattle.std.proofs.Common.{◌≡◌, ◌<◌, ◌≤◌, ◌⊎◌, inl, inr, ℕ, zero, suc, ◌+◌, List, [], ◌∷◌, ◌++◌, length, map, set, replicate, true, Option, Some, None, refl, sym, ap, ◌∙◌, length-set, subst, arith}
use Rattle.std.specs.Prelude.{slice_get, Result, Ok, Err, IfOk}
use Rattle.std.proofs.lemmas.Bool.{and_from}
use Rattle.std.proofs.lemmas.List.{length-replicate}
use Rattle.fac_lang.specs.declared.program.ClassDef.{ClassDef}
use Rattle.fac_lang.specs.Classes.{shape_at, parent_in}
use Rattle.fac_graph.specs.Paths.{IsOneOf, LeadsTo, by_edge, and_edge}
use Rattle.fac_graph.specs.Laws.{class_edges}
use Rattle.fac_graph.proofs.NumberLists.{some_same, in_left, in_right, in_either, only_one, in_one, under, set_here, set_other, set_back, last_or_before}
use Rattle.fac_graph.proofs.ComponentLemmas.{same_or_other}
use Rattle.fac_graph.specs.Slots.{own_slot_count, slot_counts, classes_end}
use Rattle.fac_graph.specs.inner.Climbing.{Counts, first_or, IsLine, known_or_none, is_met, is_known, Climbs, IsClimbing, IsIdle, IsMet, KeepsMet, Climbed, MayDescend, Visits, VisitsOne, all_known, IsOver}
use Rattle.fac_graph.specs.declared.slots.SlotCount.{SlotCount}
use Rattle.fac_graph.specs.declared.slots.SlotCount.TheVariants.{Unmet, OnWay, Known}
use Rattle.fac_graph.specs.declared.slots.Counting.{Counting}
use Rattle.fac_graph.proofs.SlotLemmas.{counts_are, none_counts, child_counts, parent_edge, no_round, all_counted}

-- what follows from a call's fact
pub if_ok : {T E : Type 0} (A B : T → Type 0) (r : Result T E) → ((x : T) → A x → B x) → IfOk r A → IfOk r B
if_ok A B (Ok x) f h = f x h
if_ok A B (Err x) f h = tt

-- standings
on_way_not_known : (n : ℕ) → OnWay ≡ Known n → ⊥
on_way_not_known n e = cc

known_not_on_way : (n : ℕ) → Known n ≡ OnWay → ⊥
known_not_on_way n e = cc

unmet_not_on_way : Unmet ≡ OnWay → ⊥
unmet_not_on_way e = cc

known_same : (m n : ℕ) → Known m ≡ Known n → m ≡ n
known_same m n e = cc

pub found_unmet : (o : Option SlotCount) (s : SlotCount) → s ≡ known_or_none o → s ≡ Unmet → o ≡ Some Unmet
found_unmet None s e is = absurd (let clash : Known 0 ≡ Unmet = sym e ∙ is in cc)
found_unmet (Some t) s e is = ap Some (sym e ∙ is)

pub found_on_way : (o : Option SlotCount) (s : SlotCount) → s ≡ known_or_none o → s ≡ OnWay → o ≡ Some OnWay
found_on_way None s e is = absurd (known_not_on_way 0 (sym e ∙ is))
found_on_way (Some t) s e is = ap Some (sym e ∙ is)

found_known : (o : Option SlotCount) (s : SlotCount) (n : ℕ) → s ≡ known_or_none o → s ≡ Known n → ((o ≡ None) × (n ≡ 0)) ⊎ (o ≡ Some (Known n))
found_known None s n e is = inl (refl, known_same n 0 (sym is ∙ e))
found_known (Some t) s n e is = inr (ap Some (sym e ∙ is))

known_met : (o : Option SlotCount) (s : SlotCount) (n : ℕ) → s ≡ known_or_none o → s ≡ Known n → is_met o ≡ true
known_met None s n e is = refl
known_met (Some t) s n e is = ap (λ (r : SlotCount). is_met (Some r)) (sym e ∙ is)

not_there : (S : List SlotCount) (c : ℕ) → slice_get S c ≡ None → length S ≤ c
not_there [] c e = omega arith
not_there (s ∷ S) zero e = absurd cc
not_there (s ∷ S) (suc c) e = let le = not_there S c e in omega (arith, le)

-- lines
line_more : (cs : List ClassDef) (way : List ℕ) (c : ℕ) → IsLine cs way (Some c) → IsLine cs (way ++ c ∷ []) (parent_in (shape_at cs c))
line_more cs [] c h = (refl, tt)
line_more cs (x ∷ way) c h = (h.0 ∙ first_more way c, line_more cs way c h.1)
  where
    first_more : (way : List ℕ) (c : ℕ) → first_or (Some c) way ≡ first_or (parent_in (shape_at cs c)) (way ++ c ∷ [])
    first_more [] c = refl
    first_more (y ∷ way) c = refl

line_less : (cs : List ClassDef) (way : List ℕ) (c : ℕ) (at : Option ℕ) → IsLine cs (way ++ c ∷ []) at → (parent_in (shape_at cs c) ≡ at) × IsLine cs way (Some c)
line_less cs [] c at h = (h.0, tt)
line_less cs (x ∷ way) c at h =
    let rest = line_less cs way c at h.1 in
    (rest.0, (h.0 ∙ first_less way c at, rest.1))
  where
    first_less : (way : List ℕ) (c : ℕ) (at : Option ℕ) → first_or at (way ++ c ∷ []) ≡ first_or (Some c) way
    first_less [] c at = refl
    first_less (y ∷ way) c at = refl

-- how many classes weren't met
abbrev pub unmet_count : List SlotCount → ℕ
unmet_count [] = 0
unmet_count (Unmet ∷ S) = suc (unmet_count S)
unmet_count (_ ∷ S) = unmet_count S

pub fewer_unmet : (S : List SlotCount) (c : ℕ) → slice_get S c ≡ Some Unmet → suc (unmet_count (set S c OnWay)) ≡ unmet_count S
fewer_unmet [] c e = absurd cc
fewer_unmet (Unmet ∷ S) zero e = refl
fewer_unmet (OnWay ∷ S) zero e = absurd cc
fewer_unmet (Known n ∷ S) zero e = absurd cc
fewer_unmet (Unmet ∷ S) (suc c) e = ap suc (fewer_unmet S c e)
fewer_unmet (OnWay ∷ S) (suc c) e = fewer_unmet S c e
fewer_unmet (Known n ∷ S) (suc c) e = fewer_unmet S c e

set_met : (S : List SlotCount) (c : ℕ) (s : SlotCount) → is_met (Some s) ≡ true → c < length S → KeepsMet S (set S c s)
set_met S c s met lt = λ x e. by_case x e (same_or_other x c)
  where
    here : (S : List SlotCount) (c : ℕ) → c < length S → slice_get (set S c s) c ≡ Some s
    here [] c lt = absurd (omega (arith, lt))
    here (t ∷ S) zero lt = refl
    here (t ∷ S) (suc c) lt = here S c (omega (arith, lt))

    by_case : (x : ℕ) → is_met (slice_get S x) ≡ true → (x ≡ c) ⊎ (x ≡ c → ⊥) → is_met (slice_get (set S c s) x) ≡ true
    by_case x e (inl same) = ap is_met (ap (slice_get (set S c s)) same ∙ here S c lt) ∙ met
    by_case x e (inr other) = ap is_met (set_other S c x s other) ∙ e

climbs_same : (cs : List ClassDef) (S T : List SlotCount) (way there : List ℕ) (at : Option ℕ) → T ≡ S → there ≡ way → Climbs cs S way at → Climbs cs T there at
climbs_same cs S T way there at e f h = rw (e, f) h

-- the way up, from its beginning
pub record Climbing (cs : List ClassDef) (class : ℕ) (before now : Counting) (at : Option ℕ) : Type 0 where
  pub climbing : IsClimbing cs now at
  pub leads : (c a : ℕ) → IsOneOf c now.way.items → at ≡ Some a → LeadsTo (class_edges cs) c a
  pub kept : KeepsMet before.standings.items now.standings.items
  pub start : (at ≡ Some class) ⊎ (is_met (slice_get now.standings.items class) ≡ true)

pub climb_begins : (cs : List ClassDef) (class : ℕ) (c : Counting) → IsIdle cs c → Climbing cs class c c (Some class)
climb_begins cs class c idle =
    let h : IsClimbing cs c None = idle.climbing in
    record {
      climbing = record {
        counted = h.counted;
        known = h.known;
        on_way = h.on_way;
        low = h.low;
        line = subst (λ (way : List ℕ). IsLine cs way (Some class)) (sym idle.nothing) tt;
      };
      leads = λ x a e is. absurd (nothing x e);
      kept = λ x e. e;
      start = inl refl;
    }
  where
    nothing : (x : ℕ) → IsOneOf x c.way.items → ⊥
    nothing x e = let none : IsOneOf x [] = subst (λ (way : List ℕ). IsOneOf x way) idle.nothing e in cc

-- a class on the way isn't met again
pub no_return : (cs : List ClassDef) (class : ℕ) (before now : Counting) (at : Option ℕ) (c : ℕ) (s : SlotCount) → classes_end cs ≡ true → Climbing cs class before now at → at ≡ Some c → s ≡ known_or_none (slice_get now.standings.items c) → s ≡ OnWay → ⊥
no_return cs class before now at c s end h is found on_way =
    let there = h.climbing.on_way c (found_on_way (slice_get now.standings.items c) s found on_way) in
    no_round cs c end (h.climbing.low c there) (h.leads c c there is)

-- one class further up
module _ (cs : List ClassDef) (class : ℕ) (before now after : Counting) (c : ℕ) (h : Climbing cs class before now (Some c)) (unmet : slice_get now.standings.items c ≡ Some Unmet) (m : IsMet c now after) where
  abbrev S : List SlotCount
  S = now.standings.items

  abbrev way : List ℕ
  way = now.way.items

  here_low : c < length S
  here_low = under S c Unmet unmet

  abbrev upward : Option ℕ
  upward = parent_in (shape_at cs c)

  still_known : (x n : ℕ) → slice_get (set S c OnWay) x ≡ Some (Known n) → Counts cs x n
  still_known x n e = elim (set_back S c x OnWay (Known n) e) [ inl p ↦ absurd (known_not_on_way n p.1) | inr p ↦ h.climbing.known x n p ]

  now_on_way : (x : ℕ) → slice_get (set S c OnWay) x ≡ Some OnWay → IsOneOf x (way ++ c ∷ [])
  now_on_way x e = elim (set_back S c x OnWay OnWay e) [ inl p ↦ in_right x way (c ∷ []) (subst (λ (y : ℕ). IsOneOf x (y ∷ [])) p.0 (in_one x [])) | inr p ↦ in_left x way (c ∷ []) (h.climbing.on_way x p) ]

  now_low : (x : ℕ) → IsOneOf x (way ++ c ∷ []) → x < length cs
  now_low x e = elim (in_either x way (c ∷ []) e) [ inl p ↦ h.climbing.low x p | inr p ↦ omega (arith, only_one x c p, here_low, h.climbing.counted) ]

  now_leads : (x a : ℕ) → IsOneOf x (way ++ c ∷ []) → upward ≡ Some a → LeadsTo (class_edges cs) x a
  now_leads x a e is = elim (in_either x way (c ∷ []) e) [
    | inl p ↦ and_edge c (h.leads x c p refl) (parent_edge cs c a is)
    | inr p ↦ by_edge (parent_edge cs x a (ap (λ (y : ℕ). parent_in (shape_at cs y)) (only_one x c p) ∙ is))
  ]

  up : Climbs cs (set S c OnWay) (way ++ c ∷ []) upward
  up = record {
    counted = length-set S c OnWay ∙ h.climbing.counted;
    known = still_known;
    on_way = now_on_way;
    low = now_low;
    line = line_more cs way c h.climbing.line;
  }

  met_now : (Some c ≡ Some class) ⊎ (is_met (slice_get S class) ≡ true) → is_met (slice_get (set S c OnWay) class) ≡ true
  met_now (inl same) =
      let is = some_same c class same in
      ap (λ (x : ℕ). is_met (slice_get (set S c OnWay) x)) (sym is) ∙ ap is_met (set_here S c Unmet OnWay unmet)
  met_now (inr e) = set_met S c OnWay refl here_low class e

  pub climbs_on : Climbing cs class before after upward
  climbs_on = record {
    climbing = climbs_same cs (set S c OnWay) after.standings.items (way ++ c ∷ []) after.way.items upward m.standings_are m.way_is up;
    leads = λ x a e is. now_leads x a (subst (λ (xs : List ℕ). IsOneOf x xs) m.way_is e) is;
    kept = λ x e. subst (λ (T : List SlotCount). is_met (slice_get T x) ≡ true) (sym m.standings_are) (set_met S c OnWay refl here_low x (h.kept x e));
    start = inr (subst (λ (T : List SlotCount). is_met (slice_get T class) ≡ true) (sym m.standings_are) (met_now h.start));
  }

  pub fewer : unmet_count after.standings.items < unmet_count now.standings.items
  fewer = omega (arith, ap unmet_count m.standings_are, fewer_unmet S c unmet)

-- a class that is counted
pub climbed_known : (cs : List ClassDef) (class : ℕ) (before now : Counting) (at : Option ℕ) (c n : ℕ) (s : SlotCount) → Climbing cs class before now at → at ≡ Some c → s ≡ known_or_none (slice_get now.standings.items c) → s ≡ Known n → Climbed cs class before now n
climbed_known cs class before now at c n s h is found known = record {
  at = Some c;
  climbing = subst (λ (o : Option ℕ). IsClimbing cs now o) is h.climbing;
  above_is = elim (found_known (slice_get now.standings.items c) s n found known) [
    | inl p ↦ subst (λ (k : ℕ). Counts cs c k) (sym p.1) (none_counts cs c (let le = not_there now.standings.items c p.0 in omega (arith, le, h.climbing.counted)))
    | inr p ↦ h.climbing.known c n p
  ];
  kept = h.kept;
  met = elim h.start [
    | inl p ↦ (let same = some_same c class (sym is ∙ p) in ap (λ (x : ℕ). is_met (slice_get now.standings.items x)) (sym same) ∙ known_met (slice_get now.standings.items c) s n found known)
    | inr p ↦ p
  ];
}

-- the end of the way
pub climbed_end : (cs : List ClassDef) (class : ℕ) (before now : Counting) (at : Option ℕ) → Climbing cs class before now at → at ≡ None → Climbed cs class before now 0
climbed_end cs class before now at h is = record {
  at = None;
  climbing = subst (λ (o : Option ℕ). IsClimbing cs now o) is h.climbing;
  above_is = refl;
  kept = h.kept;
  met = elim h.start [ inl p ↦ absurd (let clash : None ≡ Some class = sym is ∙ p in cc) | inr p ↦ p ];
}

-- the way down, from its beginning
pub record Descending (cs : List ClassDef) (before now : Counting) (count : ℕ) : Type 0 where
  pub may : MayDescend cs now count
  pub kept : KeepsMet before.standings.items now.standings.items

pub descend_begins : (cs : List ClassDef) (c : Counting) (above : ℕ) → MayDescend cs c above → Descending cs c c above
descend_begins cs c above may = record { may = may; kept = λ x e. e }

-- one class further down
module _ (cs : List ClassDef) (before now : Counting) (standings : List SlotCount) (left : List ℕ) (count c sum : ℕ) (d : Descending cs before now count) (way_is : now.way.items ≡ left ++ c ∷ []) (sum_is : sum ≡ count + own_slot_count (shape_at cs c)) (standings_are : standings ≡ set now.standings.items c (Known sum)) where
  abbrev h : Climbs cs now.standings.items now.way.items d.may.at
  h = d.may.climbing

  lines : (parent_in (shape_at cs c) ≡ d.may.at) × IsLine cs left (Some c)
  lines = line_less cs left c d.may.at (subst (λ (way : List ℕ). IsLine cs way d.may.at) way_is h.line)

  on_it : (x : ℕ) → IsOneOf x (left ++ c ∷ []) → IsOneOf x now.way.items
  on_it x e = subst (λ (way : List ℕ). IsOneOf x way) (sym way_is) e

  last_low : c < length now.standings.items
  last_low = (let low = h.low c (on_it c (in_right c left (c ∷ []) (in_one c []))) in omega (arith, low, h.counted))

  here_counts : Counts cs c sum
  here_counts = subst (λ (k : ℕ). Counts cs c k) (sym sum_is) (child_counts cs c count d.may.at lines.0 d.may.above_is)

  down_known : (x n : ℕ) → slice_get (set now.standings.items c (Known sum)) x ≡ Some (Known n) → Counts cs x n
  down_known x n e = elim (set_back now.standings.items c x (Known sum) (Known n) e) [
    | inl p ↦ subst (λ (k : ℕ). Counts cs x k) (sym (known_same n sum p.1)) (subst (λ (y : ℕ). Counts cs y sum) (sym p.0) here_counts)
    | inr p ↦ h.known x n p
  ]

  down_on_way : (x : ℕ) → slice_get (set now.standings.items c (Known sum)) x ≡ Some OnWay → IsOneOf x left
  down_on_way x e = elim (set_back now.standings.items c x (Known sum) OnWay e) [
    | inl p ↦ absurd (on_way_not_known sum p.1)
    | inr p ↦ elim (in_either x left (c ∷ []) (subst (λ (way : List ℕ). IsOneOf x way) way_is (h.on_way x p))) [ inl q ↦ q | inr q ↦ absurd (gone x (only_one x c q) e) ]
  ]
    where
      here : (S : List SlotCount) (k : ℕ) → k < length S → slice_get (set S k (Known sum)) k ≡ Some (Known sum)
      here [] k lt = absurd (omega (arith, lt))
      here (t ∷ S) zero lt = refl
      here (t ∷ S) (suc k) lt = here S k (omega (arith, lt))

      gone : (x : ℕ) → x ≡ c → slice_get (set now.standings.items c (Known sum)) x ≡ Some OnWay → ⊥
      gone x same e = known_not_on_way sum (some_same (Known sum) OnWay (sym (here now.standings.items c last_low) ∙ sym (ap (slice_get (set now.standings.items c (Known sum))) same) ∙ e))

  down : Climbs cs (set now.standings.items c (Known sum)) left (Some c)
  down = record {
    counted = length-set now.standings.items c (Known sum) ∙ h.counted;
    known = down_known;
    on_way = down_on_way;
    low = λ x e. h.low x (on_it x (in_left x left (c ∷ []) e));
    line = lines.1;
  }

  pub descends_on : (after : Counting) → after.standings.items ≡ standings → after.way.items ≡ left → Descending cs before after sum
  descends_on after same_standings same_way = record {
    may = record {
      at = Some c;
      climbing = climbs_same cs (set now.standings.items c (Known sum)) after.standings.items left after.way.items (Some c) (same_standings ∙ standings_are) same_way down;
      above_is = here_counts;
    };
    kept = λ x e. subst (λ (T : List SlotCount). is_met (slice_get T x) ≡ true) (sym (same_standings ∙ standings_are)) (set_met now.standings.items c (Known sum) refl last_low x (d.kept x e));
  }

  pub last_there : c < length now.standings.items
  last_there = last_low

-- nothing is left
pub descent_ends : (cs : List ClassDef) (before now after : Counting) (count : ℕ) → Descending cs before now count → now.way.items ≡ [] → after.standings.items ≡ now.standings.items → after.way.items ≡ now.way.items → Visits cs before after
descent_ends cs before now after count d none same_standings same_way =
    let h : IsClimbing cs now d.may.at = d.may.climbing in
    record {
      idle = record {
        climbing = climbs_same cs now.standings.items after.standings.items [] after.way.items None same_standings (same_way ∙ none) (record {
          counted = h.counted;
          known = h.known;
          on_way = λ x e. subst (λ (way : List ℕ). IsOneOf x way) none (h.on_way x e);
          low = λ x e. absurd (let clash : IsOneOf x [] = e in cc);
          line = tt;
        });
        nothing = same_way ∙ none;
      };
      kept = λ x e. subst (λ (T : List SlotCount). is_met (slice_get T x) ≡ true) (sym same_standings) (d.kept x e);
    }

pub may_descend : (cs : List ClassDef) (class : ℕ) (before after : Counting) (above : ℕ) → Climbed cs class before after above → MayDescend cs after above
may_descend cs class before after above c = record { at = c.at; climbing = c.climbing; above_is = c.above_is }

-- up and down again
pub visits_one : (cs : List ClassDef) (class : ℕ) (before between after : Counting) (above : ℕ) → Climbed cs class before between above → Visits cs between after → VisitsOne cs class before after
visits_one cs class before between after above c v = record { idle = v.idle; kept = λ x e. v.kept x (c.kept x e); met = v.kept class c.met }

-- all classes were met up to this one
abbrev pub MetBelow : ℕ → List SlotCount → Type 0
MetBelow n standings = (c : ℕ) → c < n → is_met (slice_get standings c) ≡ true

pub met_none : (S : List SlotCount) → MetBelow 0 S
met_none S c lt = absurd (omega (arith, lt))

pub met_more : (cs : List ClassDef) (before after : Counting) (class : ℕ) → MetBelow class before.standings.items → VisitsOne cs class before after → MetBelow (class + 1) after.standings.items
met_more cs before after class below v c lt = elim (last_or_before c class lt) [
  | inl p ↦ v.kept c (below c p)
  | inr p ↦ subst (λ (x : ℕ). is_met (slice_get after.standings.items x) ≡ true) (sym p) v.met
]

known_each : (S : List SlotCount) → ((c : ℕ) (s : SlotCount) → slice_get S c ≡ Some s → is_known (Some s) ≡ true) → all_known S ≡ true
known_each [] all = refl
known_each (s ∷ S) all = and_from (is_known (Some s)) (all_known S) (all 0 s refl) (known_each S (λ c t e. all (suc c) t e))

known_by : (s : SlotCount) → is_met (Some s) ≡ true → (s ≡ OnWay → ⊥) → is_known (Some s) ≡ true
known_by Unmet e none = absurd cc
known_by OnWay e none = absurd (none refl)
known_by (Known n) e none = refl

pub all_met : (cs : List ClassDef) (c : Counting) (n : ℕ) → IsIdle cs c → MetBelow n c.standings.items → length cs ≤ n → IsOver cs c
all_met cs c n idle below le =
    let h : IsClimbing cs c None = idle.climbing in
    record {
      idle = idle;
      all = known_each c.standings.items (λ x s e. known_by s (ap is_met (sym e) ∙ below x (omega (arith, le, under c.standings.items x s e, h.counted))) (λ is. nothing x (h.on_way x (e ∙ ap Some is))));
    }
  where
    nothing : (x : ℕ) → IsOneOf x c.way.items → ⊥
    nothing x e = let none : IsOneOf x [] = subst (λ (way : List ℕ). IsOneOf x way) idle.nothing e in cc

-- a count that has not begun
unmet_at : (n x : ℕ) (s : SlotCount) → slice_get (replicate n Unmet) x ≡ Some s → s ≡ Unmet
unmet_at zero x s e = absurd cc
unmet_at (suc n) zero s e = some_same s Unmet (sym e)
unmet_at (suc n) (suc x) s e = unmet_at n x s e

pub begins_idle : (cs : List ClassDef) (c : Counting) → c.standings.items ≡ replicate (length cs) Unmet → c.way.items ≡ [] → IsIdle cs c
begins_idle cs c is none = record {
  climbing = climbs_same cs (replicate (length cs) Unmet) c.standings.items [] c.way.items None is none (record {
    counted = length-replicate (length cs) Unmet;
    known = λ x n e. absurd (let same = unmet_at (length cs) x (Known n) e in cc);
    on_way = λ x e. absurd (let same = unmet_at (length cs) x OnWay e in cc);
    low = λ x e. absurd (let clash : IsOneOf x [] = e in cc);
    line = tt;
  });
  nothing = none;
}

-- what is counted in the end
count_there : (ns : List ℕ) (c n : ℕ) → slice_get ns c ≡ Some n → slice_get (map Known ns) c ≡ Some (Known n)
count_there [] c n e = absurd cc
count_there (m ∷ ns) zero n e = ap Some (ap Known (some_same m n e))
count_there (m ∷ ns) (suc c) n e = count_there ns c n e

counts_length : (ns : List ℕ) → length (map Known ns) ≡ length ns
counts_length [] = refl
counts_length (n ∷ ns) = ap suc (counts_length ns)

pub over_counts : (cs : List ClassDef) (c : Counting) (ns : List ℕ) → IsOver cs c → c.standings.items ≡ map Known ns → ns ≡ slot_counts cs
over_counts cs c ns over are =
    let h : IsClimbing cs c None = over.idle.climbing in
    let many : length ns ≡ length cs = sym (ap length are ∙ counts_length ns) ∙ h.counted in
    all_counted cs ns many (λ x n e. counts_are cs x n (let lt = under ns x n e in omega (arith, lt, many)) (h.known x n (ap (λ (S : List SlotCount). slice_get S x) are ∙ count_there ns x n e)))
