-- The printed form of a stored value is that of what it stands for.
use Rattle.std.proofs.Common.{◌≡◌, ◌≢◌, ◌-◌, ℕ, zero, suc, List, [], ◌∷◌, ◌++◌, map, Some, None, Option, refl, ap, sym, ◌∙◌, append_assoc, arith}
use Rattle.std.specs.Prelude.{slice_get, codes}
use Rattle.std.specs.Option.{option_map}
use Rattle.std.proofs.lemmas.Option.{slice_get-map}
use Rattle.fac_lang.specs.World.{World, Object, array, tuple}
use Rattle.fac_lang.specs.Printed.{Names, spaced, shown_object, shown_as, shown}
use Rattle.fac_store.specs.MachineValues.{MValue, m_seen, machine_values}
use Rattle.fac_store.specs.ValueTrees.{Trees, StoreSeen, trees_of, objects_of, object_in, value_in, values_in}
use Rattle.fac_store.specs.StoredObjects.{array_values, kind_stored}
use Rattle.fac_store.specs.declared.value.Value.{Value}
use Rattle.fac_store.specs.declared.value.Value.TheVariants.{Int, True, False, Text, Iota, Word, Array, Tuple, Callable, Wide, WideIota}
use Rattle.fac_show.specs.inner.StoredForms.{head_of, tail_of, object_by, flat_form, object_form, stored_form, object_of}

-- what an object begins and ends with, by what is known of it
pub head_of_tuple : (N : Names) (o : Option (Object Value)) (k : ℕ) → Some k ≡ kind_stored o → head_of N o ≡ codes "T{ " ++ N.kind_name k ++ codes " "
head_of_tuple N None k e = absurd cc
head_of_tuple N (Some (array vs)) k e = absurd cc
head_of_tuple N (Some (tuple j vs)) k e = let same : k ≡ j = cc in rw same refl

pub head_of_array : (N : Names) (o : Option (Object Value)) (vs : List Value) → Some vs ≡ array_values o → head_of N o ≡ codes "{ "
head_of_array N None vs e = absurd cc
head_of_array N (Some (array us)) vs e = refl
head_of_array N (Some (tuple j us)) vs e = absurd cc

pub head_of_none : (N : Names) (o : Option (Object Value)) → None ≡ kind_stored o → None ≡ array_values o → head_of N o ≡ []
head_of_none N None g h = refl
head_of_none N (Some (array vs)) g h = absurd cc
head_of_none N (Some (tuple k vs)) g h = absurd cc

pub tail_of_tuple : (o : Option (Object Value)) (k : ℕ) → Some k ≡ kind_stored o → tail_of o ≡ codes "}"
tail_of_tuple None k e = absurd cc
tail_of_tuple (Some o) k e = refl

pub tail_of_array : (o : Option (Object Value)) (vs : List Value) → Some vs ≡ array_values o → tail_of o ≡ codes "}"
tail_of_array None vs e = absurd cc
tail_of_array (Some o) vs e = refl

pub tail_of_none : (o : Option (Object Value)) → None ≡ kind_stored o → None ≡ array_values o → tail_of o ≡ []
tail_of_none None g h = refl
tail_of_none (Some (array vs)) g h = absurd cc
tail_of_none (Some (tuple k vs)) g h = absurd cc

-- values one by one
forms_of : (f : Value → List ℕ) (g : MValue → List ℕ) (T : Trees) (vs : List Value) → ((v : Value) → f v ≡ g (value_in T v)) → map f vs ≡ map g (values_in T vs)
forms_of f g T [] h = refl
forms_of f g T (v ∷ vs) h = rw (h v, forms_of f g T vs h) refl

-- an object
form_of_object : (N : Names) (f : Value → List ℕ) (g : MValue → List ℕ) (T : Trees) (o : Option (Object Value)) → ((v : Value) → f v ≡ g (value_in T v)) → object_by N f o ≡ shown_object machine_values N g (option_map (object_in T) o)
form_of_object N f g T None h = refl
form_of_object N f g T (Some (array vs)) h = rw (forms_of f g T vs h) refl
form_of_object N f g T (Some (tuple k vs)) h = rw (forms_of f g T vs h) refl

-- a value, by the forms of objects
form_of_flat : (s : StoreSeen) (N : Names) (f g : ℕ → List ℕ) (v : Value) → ((a : ℕ) → f a ≡ g a) → flat_form s N f v ≡ shown_as machine_values N g (m_seen (value_in (trees_of s) v))
form_of_flat s N f g (Int z) h = refl
form_of_flat s N f g True h = refl
form_of_flat s N f g False h = refl
form_of_flat s N f g (Text k) h = refl
form_of_flat s N f g (Iota z) h = refl
form_of_flat s N f g (Word a) h = refl
form_of_flat s N f g (Array k) h = h k
form_of_flat s N f g (Tuple k) h = h k
form_of_flat s N f g (Callable k) h = refl
form_of_flat s N f g (Wide k low) h = refl
form_of_flat s N f g (WideIota k low) h = refl

pub form_is : (s : StoreSeen) (N : Names) (w : World MValue) (l : ℕ) (v : Value) → w.objects ≡ objects_of s → stored_form s N l v ≡ shown machine_values N l w (value_in (trees_of s) v)
form_is s N w zero v e = form_of_flat s N (object_form s N zero) (λ a. codes "...") v (λ a. refl)
form_is s N w (suc l) v e =
    form_of_flat s N (object_form s N (suc l)) (λ a. shown_object machine_values N (shown machine_values N l w) (slice_get w.objects a)) v
    (λ a. form_of_object N (stored_form s N l) (shown machine_values N l w) (trees_of s) (slice_get s.objects a) (λ u. form_is s N w l u e)
    ∙ sym (ap (shown_object machine_values N (shown machine_values N l w)) (ap (λ (os : List (Object MValue)). slice_get os a) e ∙ slice_get-map (object_in (trees_of s)) s.objects a)))

-- an object with levels left
pub object_below : (s : StoreSeen) (N : Names) (l a : ℕ) → l ≢ 0 → object_form s N l a ≡ object_of s N (l - 1) a
object_below s N zero a some = absurd (some refl)
object_below s N (suc l) a some = let same : suc l - 1 ≡ l = omega arith in rw same refl

-- values, each with a space behind it
pub spaced_more : (form : List ℕ) (forms : List (List ℕ)) → spaced (form ∷ forms) ≡ (form ++ 32 ∷ []) ++ spaced forms
spaced_more form forms = sym (append_assoc form (32 ∷ []) (spaced forms))

pub spaced_step : (f : Value → List ℕ) (v : Value) (vs : List Value) (line added whole : List ℕ) → line ++ spaced (map f (v ∷ vs)) ≡ whole → added ≡ line ++ (f v ++ 32 ∷ []) → added ++ spaced (map f vs) ≡ whole
spaced_step f v vs line added whole same more = rw more (append_assoc line (f v ++ 32 ∷ []) (spaced (map f vs)) ∙ ap (λ (cs : List ℕ). line ++ cs) (sym (spaced_more (f v) (map f vs))) ∙ same)
