-- Loads, one behind the other.
use Rattle.std.proofs.Common.{◌≡◌, ◌≤◌, ◌<◌, ◌+◌, ◌-◌, ℕ, suc, drop, drop-cons, get_or, List, Result, Ok, Err, [], ◌∷◌, ◌++◌, length, map, take, Some, None, IfSome, IsSomeAnd, refl, sym, ap, subst, ◌∙◌, inl, inr, arith, append_assoc, length-append}
use Rattle.std.proofs.Math.Seq.{take-append_seam}
use Rattle.std.proofs.lemmas.List.{map-append, append-nil, take_more, take-append-drop}
use Rattle.std.proofs.lemmas.List.Folds.{concat-append}
use Rattle.std.specs.List.{concat}
use Rattle.std.specs.declared.option.Option.{Option}
use Rattle.fac_io.specs.declared.files.Asked.{Asked}
use Rattle.fac_io.specs.declared.files.Asked.TheVariants.{Load}
use Rattle.fac_io.specs.Faults.{Rose}
use Rattle.fac_io.specs.Names.{Held}
use Rattle.fac_io.specs.Told.{Stays, Grows, GrowsByPrefix}
use Rattle.fac_tool.specs.declared.ended.Ended.{Ended}
use Rattle.fac_tool.specs.SeenObjects.{FilesSeen}
use Rattle.fac_tool.specs.Loads.{LoadsGive, LoadsEnd}
use Rattle.fac_tool.specs.inner.StepEnds.{LoadAdds, OneEnds, LoadsOne, LoadsOnly}
use Rattle.fac_tool.proofs.EarlyEnds.{grows_nothing}

stays_on : {A : Type 0} (one two three : Option A) → Stays one two → Stays two three → Stays one three
stays_on None two three h k = tt
stays_on (Some x) None three h k = absurd h
stays_on (Some x) (Some y) None h k = absurd k
stays_on (Some x) (Some y) (Some z) h k = k ∙ h

grows_on : {A : Type 0} (one two three : Option (List A)) (more next : List A) → Grows one two more → Grows two three next → Grows one three (more ++ next)
grows_on None two three more next h k = tt
grows_on (Some x) None three more next h k = absurd h
grows_on (Some x) (Some y) None more next h k = absurd k
grows_on (Some x) (Some y) (Some z) more next h k = k ∙ ap (λ (xs : List _). xs ++ next) h ∙ append_assoc x more next

grows_still : {A : Type 0} (one two three : Option (List A)) (more : List A) → Grows one two more → Stays two three → Grows one three more
grows_still None two three more h k = tt
grows_still (Some x) None three more h k = absurd h
grows_still (Some x) (Some y) None more h k = absurd k
grows_still (Some x) (Some y) (Some z) more h k = k ∙ h

-- growth by a front is growth by a prefix
grows_front : {A : Type 0} (one two : Option (List A)) (front whole rest : List A) → whole ≡ front ++ rest → Grows one two front → GrowsByPrefix one two whole
grows_front None two front whole rest e h = tt
grows_front (Some x) None front whole rest e h = absurd h
grows_front (Some x) (Some y) front whole rest e h =
    let few : length front ≤ length whole = rw (e, length-append) (omega arith) in
    let same : take (length front) whole ≡ front = ap (take (length front)) e ∙ take-append_seam front rest in
    (length front, few, h ∙ ap (λ (xs : List _). x ++ xs) (sym same))

-- what files were and are
abbrev seen : Option Held → Option Held → Option (List Asked) → Option (List Asked) → ℕ → ℕ → FilesSeen
seen h h' a a' n n' = record { held_before = h; held_now = h'; asked_before = a; asked_now = a'; faults_before = n; faults_now = n' }

-- before the first load
pub no_loads : (limit : ℕ) (h : Option Held) (a : Option (List Asked)) (n : ℕ) → LoadsGive [] limit (seen h h a a n n) []
no_loads limit h a n = record { within = omega arith; told = nothing_told h; held = held_same h; asked = grows_nothing a; faults = refl }
  where
    nothing_told : (h : Option Held) → IfSome h (λ held. map held [] ≡ map Some [])
    nothing_told None = tt
    nothing_told (Some held) = refl

    held_same : (h : Option Held) → Stays h h
    held_same None = tt
    held_same (Some held) = refl

-- what names held, before a load and at it
told_on :
    (one two : Option Held) (names : List (List ℕ)) (name : List ℕ) (texts : List (List ℕ)) (text : List ℕ) →
    IfSome one (λ held. map held names ≡ map Some texts) → Stays one two → IfSome two (λ held. held name ≡ Some text) → IfSome one (λ held. map held (names ++ name ∷ []) ≡ map Some (texts ++ text ∷ []))
told_on None two names name texts text h s k = tt
told_on (Some held) None names name texts text h s k = absurd s
told_on (Some held) (Some same) names name texts text h s k =
    let now : held name ≡ Some text = subst (λ (f : Held). f name ≡ Some text) s k in
    map-append held names (name ∷ []) ∙ (rw (h, now) refl) ∙ sym (map-append Some texts (text ∷ []))

-- the bytes of one more text
one_more_text : (texts : List (List ℕ)) (text : List ℕ) → length (concat (texts ++ text ∷ [])) ≡ length (concat texts) + length text
one_more_text texts text = ap length (concat-append texts (text ∷ [])) ∙ length-append (concat texts) (concat (text ∷ [])) ∙ ap (λ (xs : List ℕ). length (concat texts) + length xs) (append-nil text)

-- so much room there is behind these texts
pub record LoadedSoFar (names : List (List ℕ)) (limit : ℕ) (files : FilesSeen) (texts : List (List ℕ)) (left : ℕ) : Type 0 where
  pub gives : LoadsGive names limit files texts
  pub room : left + length (concat texts) ≡ limit

pub loads_next :
    (names : List (List ℕ)) (limit : ℕ) (name : List ℕ) (room left : ℕ) (h h' h'' : Option Held) (a a' a'' : Option (List Asked)) (n n' n'' : ℕ) (texts now : List (List ℕ)) →
    LoadedSoFar names limit (seen h h' a a' n n') texts room → LoadAdds name room (seen h' h'' a' a'' n' n'') texts now left → LoadedSoFar (names ++ name ∷ []) limit (seen h h'' a a'' n n'') now left
loads_next names limit name room left h h' h'' a a' a'' n n' n'' texts now so_far adds =
    let text = adds.text in
    let bytes : length (concat now) ≡ length (concat texts) + length text = ap (λ (xs : List (List ℕ)). length (concat xs)) adds.added ∙ one_more_text texts text in
    let gives = so_far.gives in
    record {
      gives = record {
        within = omega (arith, bytes, so_far.room, adds.rest);
        told = subst (λ (xs : List (List ℕ)). IfSome h (λ held. map held (names ++ name ∷ []) ≡ map Some xs)) (sym adds.added) (told_on h h' names name texts text gives.told gives.held adds.gives.told);
        held = stays_on h h' h'' gives.held adds.gives.held;
        asked = subst (λ (xs : List Asked). Grows a a'' xs) (sym (map-append Load names (name ∷ []))) (grows_on a a' a'' (map Load names) (Load name ∷ []) gives.asked adds.gives.asked);
        faults = adds.gives.faults ∙ gives.faults;
      };
      room = omega (arith, bytes, so_far.room, adds.rest);
    }

longer_on :
    (limit : ℕ) (one two : Option Held) (name : List ℕ) (room : ℕ) (texts : List (List ℕ)) →
    room + length (concat texts) ≡ limit → Stays one two → IfSome two (λ held. IsSomeAnd (held name) (λ text. room < length text)) → IfSome one (λ held. IsSomeAnd (held name) (λ text. limit < length (concat texts) + length text))
longer_on limit None two name room texts e s k = tt
longer_on limit (Some held) None name room texts e s k = absurd s
longer_on limit (Some held) (Some same) name room texts e s k = passes (held name) (subst (λ (f : Held). IsSomeAnd (f name) (λ text. room < length text)) s k)
  where
    passes : (r : Option (List ℕ)) → IsSomeAnd r (λ text. room < length text) → IsSomeAnd r (λ text. limit < length (concat texts) + length text)
    passes None h = absurd h
    passes (Some text) h = omega (arith, e, h)

-- the names with which loads begin, and those behind
asked_front : (names before : List (List ℕ)) (name : List ℕ) (after : List (List ℕ)) → names ≡ before ++ (name ∷ after) → map Load names ≡ map Load before ++ (Load name ∷ map Load after)
asked_front names before name after e = ap (map Load) e ∙ map-append Load before (name ∷ after)

pub loads_end :
    (names before after : List (List ℕ)) (name : List ℕ) (room limit : ℕ) (h h' h'' : Option Held) (a a' a'' : Option (List Asked)) (n n' n'' : ℕ) (texts : List (List ℕ)) (ended : Ended) →
    names ≡ before ++ (name ∷ after) → LoadedSoFar before limit (seen h h' a a' n n') texts room → OneEnds name room limit (seen h' h'' a' a'' n' n'') ended → LoadsEnd names limit (seen h h'' a a'' n n'') ended
loads_end names before after name room limit h h' h'' a a' a'' n n' n'' texts ended place so_far (inl none) =
    let gives = so_far.gives in
    inl (record {
      status = ap (λ (x : Ended). x.status) none.is;
      ticks = ap (λ (x : Ended). x.ticks) none.is;
      bare = record { stack = ap (λ (x : Ended). x.stack) none.is; refusal = ap (λ (x : Ended). x.refusal) none.is };
      held = stays_on h h' h'' gives.held none.held;
      asked = grows_front a a'' (map Load before) (map Load names) (Load name ∷ map Load after) (asked_front names before name after place) (grows_still a a' a'' (map Load before) gives.asked none.asked);
      faults = none.faults ∙ gives.faults;
    })
loads_end names before after name room limit h h' h'' a a' a'' n n' n'' texts ended place so_far (inr (inl lost)) =
    let gives = so_far.gives in
    let front = grows_on a a' a'' (map Load before) (Load name ∷ []) gives.asked lost.asked in
    let whole = asked_front names before name after place ∙ sym (append_assoc (map Load before) (Load name ∷ []) (map Load after)) in
    inl (record {
      status = ap (λ (x : Ended). x.status) lost.is;
      ticks = ap (λ (x : Ended). x.ticks) lost.is;
      bare = record { stack = ap (λ (x : Ended). x.stack) lost.is; refusal = ap (λ (x : Ended). x.refusal) lost.is };
      held = stays_on h h' h'' gives.held lost.held;
      asked = grows_front a a'' (map Load before ++ Load name ∷ []) (map Load names) (map Load after) whole front;
      faults = lost.faults ∙ gives.faults;
    })
loads_end names before after name room limit h h' h'' a a' a'' n n' n'' texts ended place so_far (inr (inr (inl fails))) =
    let gives = so_far.gives in
    inr (inl (record {
      name = name;
      texts = texts;
      comes = record {
        before = before;
        after = after;
        place = place;
        within = gives.within;
        told = gives.told;
        held = stays_on h h' h'' gives.held fails.held;
        asked = grows_on a a' a'' (map Load before) (Load name ∷ []) gives.asked fails.asked;
      };
      status = ap (λ (x : Ended). x.status) fails.is;
      ticks = ap (λ (x : Ended). x.ticks) fails.is;
      stack = ap (λ (x : Ended). x.stack) fails.is;
      refusal = ap (λ (x : Ended). x.refusal) fails.is;
      rose = subst (λ (k : ℕ). Rose k n'') gives.faults fails.rose;
    }))
-- the same facts of what was loaded before, in another record
loads_end names before after name room limit h h' h'' a a' a'' n n' n'' texts ended place so_far (inr (inr (inr long))) =
    let gives = so_far.gives in
    inr (inr (record {
      name = name;
      texts = texts;
      comes = record {
        before = before;
        after = after;
        place = place;
        within = gives.within;
        told = gives.told;
        held = stays_on h h' h'' gives.held long.held;
        asked = grows_on a a' a'' (map Load before) (Load name ∷ []) gives.asked long.asked;
      };
      status = ap (λ (x : Ended). x.status) long.is;
      ticks = ap (λ (x : Ended). x.ticks) long.is;
      stack = ap (λ (x : Ended). x.stack) long.is;
      refusal = ap (λ (x : Ended). x.refusal) long.is;
      longer = longer_on limit h h' name room texts so_far.room gives.held long.longer;
      faults = long.faults ∙ gives.faults;
    }))

-- the load of one file alone
pub loads_only : (name : List ℕ) (limit : ℕ) (files : FilesSeen) (r : Result (List ℕ) Ended) → LoadsOne name limit limit files r → LoadsOnly name limit files r
loads_only name limit files (Ok text) one =
    let h = files.held_before in
    let a = files.asked_before in
    let n = files.faults_before in
    let first : LoadedSoFar [] limit (seen h h a a n n) [] limit = record { gives = no_loads limit h a n; room = omega arith } in
    let adds : LoadAdds name limit (seen h files.held_now a files.asked_now n files.faults_now) [] (text ∷ []) (limit - length text) = record { text = text; gives = one; added = refl; rest = omega (arith, one.within) } in
    (loads_next [] limit name limit (limit - length text) h h files.held_now a a files.asked_now n n files.faults_now [] (text ∷ []) first adds).gives
loads_only name limit files (Err ended) one =
    let h = files.held_before in
    let a = files.asked_before in
    let n = files.faults_before in
    let first : LoadedSoFar [] limit (seen h h a a n n) [] limit = record { gives = no_loads limit h a n; room = omega arith } in
    loads_end (name ∷ []) [] [] name limit limit h h files.held_now a a files.asked_now n n files.faults_now [] ended refl first one

-- the names of one load more
pub one_more_name : {A : Type 0} (f : A → List ℕ) (names : List A) (i : ℕ) (name : A) → i < length names → name ≡ get_or names i name → map f (take (i + 1) names) ≡ map f (take i names) ++ f name ∷ []
one_more_name f names i name below is =
    ap (map f) (take_more names i name below) ∙ map-append f (take i names) (get_or names i name ∷ []) ∙ ap (λ (x : _). map f (take i names) ++ f x ∷ []) (sym is)

-- the names before a load, it and those behind
pub names_around : {A : Type 0} (f : A → List ℕ) (names : List A) (i : ℕ) (name : A) → i < length names → name ≡ get_or names i name → map f names ≡ map f (take i names) ++ (f name ∷ map f (drop (suc i) names))
names_around f names i name below is =
    ap (map f) (sym (take-append-drop i names)) ∙ map-append f (take i names) (drop i names) ∙
    ap (λ (xs : List _). map f (take i names) ++ map f xs) (drop-cons names i name below ∙ ap (λ (x : _). x ∷ drop (suc i) names) (sym is))
