-- Procedures that do the same under other addresses.
use Rattle.std.proofs.Common.{◌≡◌, ℕ, suc, List, [], ◌∷◌, ◌++◌, Option, Some, None, refl, ap, sym, subst, ◌∙◌}
use Rattle.std.specs.Prelude.{map, length, set, slice_get}
use Rattle.std.proofs.lemmas.List.{length-map, map-append, map-set}
use Rattle.std.specs.Option.{option_map}
use Rattle.fac_lang.specs.Phrases.{Plain, no, arr, tup}
use Rattle.fac_lang.specs.World.{Object, array, tuple, World}
use Rattle.fac_lang.specs.declared.error_name.ErrorName.{ErrorName}
use Rattle.fac_base.specs.declared.limits.TheConstants.{MOST_PAIRS}
use Rattle.fac_lang.specs.Equality.{Equal, equal_pairs}
use Rattle.fac_lang.specs.Printed.{Names, printed}
use Rattle.fac_lang.specs.Procedures.{Procedure, leaves, answers, answers_array, answers_tuple, curries, composes, fails, looks, adds, opens, puts, compares, prints, asks, writes, reads, Gives, line_in, behind_line, places_from, picked, repeated, value_at, array_in, opened, opened_places, with_element, made_or, followed}
use Rattle.fac_store.specs.MachineValues.{MValue, m_plain, m_seen, m_curry, m_compose, machine_values}
use Rattle.fac_machine.specs.Renaming.{Renaming, renamed_plain, renamed, renamed_values, renamed_object, RenamesWorld, RenamesGives}
use Rattle.fac_machine.proofs.RenamingValues.{map_repeated, seen_renamed, at_renamed, if_renamed, picked_renamed, curry_renamed, compose_renamed, next_same, with_object, with_other}
use Rattle.fac_machine.proofs.RenamingSeen.{equal_renamed, printed_renamed}

module _ (ρ : Renaming) (N : Names) where
  abbrev V : MValue → MValue
  V = renamed ρ

  -- The first procedure in the first world gives what the second gives in the second, from the same values under other addresses.
  pub record SameUp {o : Option ℕ} (p q : Procedure o) : Type 0 where
    pub same : (vs : List MValue) (x y : World MValue) → RenamesWorld ρ x y → RenamesGives ρ (followed machine_values N p (renamed_values ρ vs) x) (followed machine_values N q vs y)

  pub leaves_same : (ks : List ℕ) → SameUp (leaves ks) (leaves ks)
  leaves_same ks = record { same = λ vs x y r. (picked_renamed ρ vs ks, r) }

  pub answers_same : (p : Plain) → SameUp (answers (renamed_plain ρ p)) (answers p)
  answers_same p = record { same = λ vs x y r. (refl, r) }

  pub array_same : (ks : List ℕ) → SameUp (answers_array ks) (answers_array ks)
  array_same ks =
      record {
        same = λ vs x y r. (
          ap (λ (a : ℕ). m_plain (arr a) ∷ []) (sym (next_same ρ x y r)),
          subst (λ (us : List MValue). RenamesWorld ρ (record x { objects = x.objects ++ array us ∷ [] }) (record y { objects = y.objects ++ array (picked (m_plain no) vs ks) ∷ [] })) (sym (picked_renamed ρ vs ks)) (with_object ρ x y r (array (picked (m_plain no) vs ks))),
        );
      }

  pub tuple_same : (c n : ℕ) → SameUp (answers_tuple c n) (answers_tuple c n)
  tuple_same c n =
      record {
        same = λ vs x y r. (
          ap (λ (a : ℕ). m_plain (tup a) ∷ []) (sym (next_same ρ x y r)),
          subst (λ (us : List MValue). RenamesWorld ρ (record x { objects = x.objects ++ tuple c us ∷ [] }) (record y { objects = y.objects ++ tuple c (repeated n (m_plain no)) ∷ [] })) (map_repeated V n (m_plain no)) (with_object ρ x y r (tuple c (repeated n (m_plain no)))),
        );
      }

  made_same : (o : Option MValue) (x y : World MValue) (f g : Gives MValue) → RenamesWorld ρ x y → RenamesGives ρ f g → RenamesGives ρ (made_or machine_values (option_map V o) x f) (made_or machine_values o y g)
  made_same None x y f g r h = h
  made_same (Some c) x y f g r h = (refl, r)

  pub curries_same : (j k : ℕ) (p q : Procedure (Some 1)) → SameUp p q → SameUp (curries j k p) (curries j k q)
  curries_same j k p q h =
      record {
        same = λ vs x y r.
            let v = value_at machine_values vs j in
            let w = value_at machine_values vs k in
            let e : m_curry (value_at machine_values (renamed_values ρ vs) j) (value_at machine_values (renamed_values ρ vs) k) ≡ option_map V (m_curry v w) =
            ap (λ (u : MValue). m_curry u (value_at machine_values (renamed_values ρ vs) k)) (at_renamed ρ vs j) ∙ ap (m_curry (V v)) (at_renamed ρ vs k) ∙ curry_renamed ρ v w in
            subst (λ (o : Option MValue). RenamesGives ρ (made_or machine_values o x (followed machine_values N p (renamed_values ρ vs) x)) (made_or machine_values (m_curry v w) y (followed machine_values N q vs y))) (sym e)
            (made_same (m_curry v w) x y _ _ r (h.same vs x y r));
      }

  pub composes_same : (j k : ℕ) (p q : Procedure (Some 1)) → SameUp p q → SameUp (composes j k p) (composes j k q)
  composes_same j k p q h =
      record {
        same = λ vs x y r.
            let v = value_at machine_values vs j in
            let w = value_at machine_values vs k in
            let e : m_compose (value_at machine_values (renamed_values ρ vs) j) (value_at machine_values (renamed_values ρ vs) k) ≡ option_map V (m_compose v w) =
            ap (λ (u : MValue). m_compose u (value_at machine_values (renamed_values ρ vs) k)) (at_renamed ρ vs j) ∙ ap (m_compose (V v)) (at_renamed ρ vs k) ∙ compose_renamed ρ v w in
            subst (λ (o : Option MValue). RenamesGives ρ (made_or machine_values o x (followed machine_values N p (renamed_values ρ vs) x)) (made_or machine_values (m_compose v w) y (followed machine_values N q vs y))) (sym e)
            (made_same (m_compose v w) x y _ _ r (h.same vs x y r));
      }

  array_if : (o : Option (Object MValue)) → array_in machine_values (option_map (renamed_object ρ) o) ≡ option_map (renamed_values ρ) (array_in machine_values o)
  array_if None = refl
  array_if (Some (array vs)) = refl
  array_if (Some (tuple k vs)) = refl

  array_at : (x y : World MValue) → RenamesWorld ρ x y → (a : ℕ) → array_in machine_values (slice_get x.objects (ρ a)) ≡ option_map (renamed_values ρ) (array_in machine_values (slice_get y.objects a))
  array_at x y r a = ap (array_in machine_values) (r.objects a) ∙ array_if (slice_get y.objects a)

  element_if : (a i : ℕ) (v : MValue) (x y : World MValue) → RenamesWorld ρ x y → (es : Option (List MValue)) →
      RenamesWorld ρ (record x { objects = with_element machine_values x.objects (ρ a) i (V v) (option_map (renamed_values ρ) es) }) (record y { objects = with_element machine_values y.objects a i v es })
  element_if a i v x y r None = r
  element_if a i v x y r (Some es) =
      subst (λ (us : List MValue). RenamesWorld ρ (record x { objects = set x.objects (ρ a) (array us) }) (record y { objects = set y.objects a (array (set es i v)) })) (map-set V es i v) (with_other ρ x y r (array (set es i v)) a)

  module _ {o : Option ℕ} where
    pub fails_same : (e : ErrorName) (k : Option ℕ) → SameUp {o = o} (fails e k) (fails e k)
    fails_same e k = record { same = λ vs x y r. (refl, if_renamed ρ vs k, r) }

    pub looks_same : (k : ℕ) (go to : Option Plain → Procedure o) → ((v : Option Plain) → SameUp (go (option_map (renamed_plain ρ) v)) (to v)) → SameUp (looks k go) (looks k to)
    looks_same k go to h =
        record {
          same = λ vs x y r.
              let v = value_at machine_values vs k in
              subst (λ (s : Option Plain). RenamesGives ρ (followed machine_values N (go s) (renamed_values ρ vs) x) (followed machine_values N (to (m_seen v)) vs y)) (sym (ap m_seen (at_renamed ρ vs k) ∙ seen_renamed ρ v)) ((h (m_seen v)).same vs x y r);
        }

    -- what is added has no address in it
    pub adds_same : (ps : List Plain) (go to : List ℕ → Procedure o) → map V (map m_plain ps) ≡ map m_plain ps → ((ks : List ℕ) → SameUp (go ks) (to ks)) → SameUp (adds ps go) (adds ps to)
    adds_same ps go to free h =
        record {
          same = λ vs x y r.
              let e : renamed_values ρ vs ++ map m_plain ps ≡ renamed_values ρ (vs ++ map m_plain ps) = ap (λ (l : List MValue). renamed_values ρ vs ++ l) (sym free) ∙ sym (map-append V vs (map m_plain ps)) in
              subst (λ (n : ℕ). RenamesGives ρ (followed machine_values N (go (places_from n (length ps))) (renamed_values ρ vs ++ map m_plain ps) x) (followed machine_values N (adds ps to) vs y)) (sym (length-map vs V))
              (subst (λ (us : List MValue). RenamesGives ρ (followed machine_values N (go (places_from (length vs) (length ps))) us x) (followed machine_values N (adds ps to) vs y)) (sym e)
              ((h (places_from (length vs) (length ps))).same (vs ++ map m_plain ps) x y r));
        }

    -- an array is opened at one address in the first world and at another in the second
    opens_if : (go to : Option (List ℕ) → Procedure o) → ((ks : Option (List ℕ)) → SameUp (go ks) (to ks)) → (vs : List MValue) (x y : World MValue) → RenamesWorld ρ x y → (es : Option (List MValue)) →
        RenamesGives ρ (followed machine_values N (go (opened_places machine_values (length (renamed_values ρ vs)) (option_map (renamed_values ρ) es))) (opened machine_values (renamed_values ρ vs) (option_map (renamed_values ρ) es)) x)
        (followed machine_values N (to (opened_places machine_values (length vs) es)) (opened machine_values vs es) y)
    opens_if go to h vs x y r None = (h None).same vs x y r
    opens_if go to h vs x y r (Some es) =
        subst (λ (n : ℕ). RenamesGives ρ (followed machine_values N (go (Some (places_from n (length (map V es))))) (renamed_values ρ vs ++ map V es) x) (followed machine_values N (to (Some (places_from (length vs) (length es)))) (vs ++ es) y)) (sym (length-map vs V))
        (subst (λ (n : ℕ). RenamesGives ρ (followed machine_values N (go (Some (places_from (length vs) n))) (renamed_values ρ vs ++ map V es) x) (followed machine_values N (to (Some (places_from (length vs) (length es)))) (vs ++ es) y)) (sym (length-map es V))
        (subst (λ (us : List MValue). RenamesGives ρ (followed machine_values N (go (Some (places_from (length vs) (length es)))) us x) (followed machine_values N (to (Some (places_from (length vs) (length es)))) (vs ++ es) y)) (map-append V vs es)
        ((h (Some (places_from (length vs) (length es)))).same (vs ++ es) x y r)))

    pub opens_same : (a : ℕ) (go to : Option (List ℕ) → Procedure o) → ((ks : Option (List ℕ)) → SameUp (go ks) (to ks)) → SameUp (opens (ρ a) go) (opens a to)
    opens_same a go to h =
        record {
          same = λ vs x y r.
              subst (λ (es : Option (List MValue)). RenamesGives ρ (followed machine_values N (go (opened_places machine_values (length (renamed_values ρ vs)) es)) (opened machine_values (renamed_values ρ vs) es) x) (followed machine_values N (opens a to) vs y)) (sym (array_at x y r a))
              (opens_if go to h vs x y r (array_in machine_values (slice_get y.objects a)));
        }

    pub puts_same : (a i k : ℕ) (p q : Procedure o) → SameUp p q → SameUp (puts (ρ a) i k p) (puts a i k q)
    puts_same a i k p q h =
        record {
          same = λ vs x y r.
              let v = value_at machine_values vs k in
              let es = array_in machine_values (slice_get y.objects a) in
              subst (λ (os : List (Object MValue)). RenamesGives ρ (followed machine_values N p (renamed_values ρ vs) (record x { objects = os })) (followed machine_values N (puts a i k q) vs y))
              (sym (ap (with_element machine_values x.objects (ρ a) i (value_at machine_values (renamed_values ρ vs) k)) (array_at x y r a) ∙ ap (λ (u : MValue). with_element machine_values x.objects (ρ a) i u (option_map (renamed_values ρ) es)) (at_renamed ρ vs k)))
              (h.same vs (record x { objects = with_element machine_values x.objects (ρ a) i (V v) (option_map (renamed_values ρ) es) }) (record y { objects = with_element machine_values y.objects a i v es }) (element_if a i v x y r es));
        }

    pub compares_same : (j k : ℕ) (go to : Equal → Procedure o) → ((e : Equal) → SameUp (go e) (to e)) → SameUp (compares j k go) (compares j k to)
    compares_same j k go to h =
        record {
          same = λ vs x y r.
              let v = value_at machine_values vs j in
              let w = value_at machine_values vs k in
              let e : equal_pairs machine_values MOST_PAIRS x ((value_at machine_values (renamed_values ρ vs) j, value_at machine_values (renamed_values ρ vs) k) ∷ []) ≡ equal_pairs machine_values MOST_PAIRS y ((v, w) ∷ []) =
              ap (λ (u : MValue). equal_pairs machine_values MOST_PAIRS x ((u, value_at machine_values (renamed_values ρ vs) k) ∷ [])) (at_renamed ρ vs j)
              ∙ ap (λ (u : MValue). equal_pairs machine_values MOST_PAIRS x ((V v, u) ∷ [])) (at_renamed ρ vs k) ∙ equal_renamed ρ x y r MOST_PAIRS ((v, w) ∷ []) in
              subst (λ (s : Equal). RenamesGives ρ (followed machine_values N (go s) (renamed_values ρ vs) x) (followed machine_values N (compares j k to) vs y)) (sym e) ((h (equal_pairs machine_values MOST_PAIRS y ((v, w) ∷ []))).same vs x y r);
        }

    pub prints_same : (k : ℕ) (go to : List ℕ → Procedure o) → ((bs : List ℕ) → SameUp (go bs) (to bs)) → SameUp (prints k go) (prints k to)
    prints_same k go to h =
        record {
          same = λ vs x y r.
              let v = value_at machine_values vs k in
              subst (λ (bs : List ℕ). RenamesGives ρ (followed machine_values N (go bs) (renamed_values ρ vs) x) (followed machine_values N (prints k to) vs y)) (sym (ap (printed machine_values N x) (at_renamed ρ vs k) ∙ printed_renamed ρ x y r N v)) ((h (printed machine_values N y v)).same vs x y r);
        }

    pub asks_same : (a : ℕ) (go to : Option (ℕ × ℕ) → Procedure o) → ((c : Option (ℕ × ℕ)) → SameUp (go c) (to c)) → SameUp (asks a go) (asks a to)
    asks_same a go to h = record { same = λ vs x y r. (h (N.tuple_class a)).same vs x y r }

    pub writes_same : (bs : List ℕ) (p q : Procedure o) → SameUp p q → SameUp (writes bs p) (writes bs q)
    writes_same bs p q h =
        record {
          same = λ vs x y r.
              h.same vs (record x { output = x.output ++ bs }) (record y { output = y.output ++ bs })
              (record { objects = r.objects; distinct = r.distinct; next = r.next; literals = r.literals; input = r.input; asked = r.asked; output = ap (λ (l : List ℕ). l ++ bs) r.output });
        }

    pub reads_same : (go to : Option (List ℕ) → Procedure o) → ((l : Option (List ℕ)) → SameUp (go l) (to l)) → SameUp (reads go) (reads to)
    reads_same go to h =
        record {
          same = λ vs x y r.
              subst (λ (l : Option (List ℕ)). RenamesGives ρ (followed machine_values N (go l) (renamed_values ρ vs) (record x { input = behind_line x.input; asked = suc x.asked })) (followed machine_values N (reads to) vs y)) (sym (ap line_in r.input))
              ((h (line_in y.input)).same vs (record x { input = behind_line x.input; asked = suc x.asked }) (record y { input = behind_line y.input; asked = suc y.asked })
              (record { objects = r.objects; distinct = r.distinct; next = r.next; literals = r.literals; input = ap behind_line r.input; asked = ap suc r.asked; output = r.output }));
        }
