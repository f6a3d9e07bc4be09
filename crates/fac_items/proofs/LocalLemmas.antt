-- Locals in scope.
use Rattle.std.proofs.Common.{◌≡◌, ◌-◌, ℕ, List, [], ◌∷◌, ◌++◌, length, drop, take, map, Option, Some, Bool, true, false, cond, refl, ap, sym, ◌∙◌, arith, append_assoc, length-append, length-drop}
use Rattle.std.specs.Prelude.{is_some, reverse, ◌||◌}
use Rattle.std.proofs.Math.Seq.{drop-append_seam}
use Rattle.std.specs.List.{take-map}
use Rattle.std.specs.Str.{bytes_eq}
use Rattle.std.proofs.lemmas.List.{length-reverse, reverse-append, take-append-drop}
use Rattle.std.proofs.lemmas.Slice.Eq.{bytes_eq-Decides}
use Rattle.fac_source.specs.Toks.{is_among}
use Rattle.fac_items.specs.declared.spelled.NameAt.{NameAt}
use Rattle.fac_items.specs.Written.{Node, n_bind, Nodes, nothing, more}
use Rattle.fac_items.specs.Readings.{bound}
use Rattle.fac_items.specs.Items.{local_of}
use Rattle.fac_items.specs.inner.TakenBits.{kept_locals, locals_seen}

-- the locals in scope behind items
abbrev pub locals_behind : Nodes → List (List ℕ) → List (List ℕ)
locals_behind nothing locals = locals
locals_behind (more n ns) locals = locals_behind ns (bound n locals)

same_truth : (a b : Bool) → (a ≡ true → b ≡ true) → (b ≡ true → a ≡ true) → a ≡ b
same_truth true true h k = refl
same_truth false false h k = refl
same_truth true false h k = sym (h refl)
same_truth false true h k = k refl

eq_turned : (x y : List ℕ) → bytes_eq x y ≡ bytes_eq y x
eq_turned x y = same_truth (bytes_eq x y) (bytes_eq y x) (λ h. (bytes_eq-Decides y x).1 (sym ((bytes_eq-Decides x y).0 h))) (λ h. (bytes_eq-Decides x y).1 (sym ((bytes_eq-Decides y x).0 h)))

among_one : (b c : Bool) (n : ℕ) (o : Option ℕ) → c ≡ is_some o → (b || c) ≡ is_some (cond b (Some n) o)
among_one true c n o h = refl
among_one false c n o h = h

-- a name is that of a local exactly where it is among them
pub among_local : (x : List ℕ) (xs : List (List ℕ)) → is_among x xs ≡ is_some (local_of xs x)
among_local x [] = refl
among_local x (y ∷ ys) = ap (λ (b : Bool). b || is_among x ys) (eq_turned x y) ∙ among_one (bytes_eq y x) (is_among x ys) (length ys) (local_of ys x) (among_local x ys)

-- Locals that are bound in a quotation end with it.

record Grown (before after : List (List ℕ)) : Type 0 where
  inner : List (List ℕ)
  is : after ≡ inner ++ before

bound_grown : (n : Node) (locals : List (List ℕ)) → Grown locals (bound n locals)
bound_grown (n_bind t twice p) locals = record { inner = t.text ∷ []; is = refl }
bound_grown n locals = record { inner = []; is = refl }

behind_grown : (ns : Nodes) (locals : List (List ℕ)) → Grown locals (locals_behind ns locals)
behind_grown nothing locals = record { inner = []; is = refl }
behind_grown (more n ns) locals =
    let one = bound_grown n locals in
    let rest = behind_grown ns (bound n locals) in
    record { inner = rest.inner ++ one.inner; is = rest.is ∙ ap (λ (xs : List (List ℕ)). rest.inner ++ xs) one.is ∙ sym (append_assoc rest.inner one.inner locals) }

kept_grown : (xs ys : List (List ℕ)) → kept_locals (length ys) (xs ++ ys) ≡ ys
kept_grown xs ys =
    let all = length-append xs ys in
    ap (λ (n : ℕ). drop n (xs ++ ys)) (let e : length (xs ++ ys) - length ys ≡ length xs = omega (arith, all) in e) ∙ drop-append_seam xs ys

pub kept_behind : (ns : Nodes) (locals : List (List ℕ)) → kept_locals (length locals) (locals_behind ns locals) ≡ locals
kept_behind ns locals = let g = behind_grown ns locals in ap (kept_locals (length locals)) g.is ∙ kept_grown g.inner locals

-- The code has the innermost local last.

split_taken : {A : Type 0} (k : ℕ) (xs front back : List A) → reverse xs ≡ back ++ front → length back ≡ length xs - k → front ≡ drop (length (reverse xs) - k) (reverse xs)
split_taken k xs front back is count =
    let all = length-reverse xs in
    sym (ap (λ zs. drop (length (reverse xs) - k) zs) is ∙ ap (λ (n : ℕ). drop n (back ++ front)) (let e : length (reverse xs) - k ≡ length back = omega (arith, all, count) in e) ∙ drop-append_seam back front)

pub kept_taken : {A : Type 0} (k : ℕ) (xs : List A) → reverse (take k xs) ≡ drop (length (reverse xs) - k) (reverse xs)
kept_taken k xs = split_taken k xs (reverse (take k xs)) (reverse (drop k xs)) (ap reverse (sym (take-append-drop k xs)) ∙ reverse-append (take k xs) (drop k xs)) (length-reverse (drop k xs) ∙ length-drop k xs)

pub locals_kept : (k : ℕ) (ns : List NameAt) → locals_seen (take k ns) ≡ kept_locals k (locals_seen ns)
locals_kept k ns = ap reverse (sym (take-map (λ (n : NameAt). n.text.now) k ns)) ∙ kept_taken k (map (λ (n : NameAt). n.text.now) ns)

pub kept_names : (k : ℕ) (before after : List NameAt) → after ≡ take k before → locals_seen after ≡ kept_locals k (locals_seen before)
kept_names k before after h = ap locals_seen h ∙ locals_kept k before
