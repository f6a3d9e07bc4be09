-- The texts of values, of a stack and of a run error, as code tells them.
use Rattle.std.proofs.Common.{◌≡◌, ◌≤◌, ◌<◌, ℕ, List, [], ◌∷◌, Bool, Result, Ok, Err, IfOk, Some, inl, inr, refl, ap, sym, subst, ◌∙◌, arith}
use Rattle.std.specs.Prelude.{◌+◌, ◌++◌, take, get_or, map, reverse, length, codes, if◌then◌else◌}
use Rattle.std.proofs.lemmas.Bool.{le-leb}
use Rattle.std.proofs.lemmas.Bool.Decides.{leb_tells}
use Rattle.std.proofs.lemmas.List.{map-append, reverse-reverse, take_more}
use mathlib.Core.List.{reverse-cons}
use Rattle.fac_base.specs.declared.limits.TheConstants.{MOST_SHOWN_BYTES}
use Rattle.fac_base.specs.declared.memory.Memory.{Memory}
use Rattle.fac_base.specs.declared.name.Name.{Name}
use Rattle.fac_lang.specs.World.{World}
use Rattle.fac_lang.specs.Printed.{printed}
use Rattle.fac_code.specs.declared.image.Image.{Image}
use Rattle.fac_code.specs.ImageNames.{image_names}
use Rattle.fac_show.specs.declared.show_fault.ShowFault.{ShowFault}
use Rattle.fac_show.specs.declared.show_fault.ShowFault.TheVariants.{TooLong as too_long}
use Rattle.fac_show.specs.Shown.{IsShown}
use Rattle.fac_store.specs.MachineValues.{MValue, machine_values}
use Rattle.fac_store.specs.ValueTrees.{Trees, StoreSeen, objects_of, trees_of, value_in, values_in}
use Rattle.fac_store.specs.declared.value.Value.{Value as MachineValue}
use Rattle.fac_vm.specs.SeenMachine.{MachineSeen, stack_in}
use Rattle.fac_vm.specs.declared.machine.RunError.{RunError}
use Rattle.fac_notes.specs.Told.{shown_text}
use Rattle.fac_notes.specs.WordNames.{image_word_name}
use Rattle.fac_notes.specs.declared.report.Report.TheVariants as report
use Rattle.fac_listener.specs.MachineTexts.{machine_text, IsTextOf, AreTextsOf, AreStackTexts, IsReportOf}

-- a printed form as it is told
pub shown_whole : (text form : List ℕ) → text ≡ form → length form ≤ MOST_SHOWN_BYTES → text ≡ shown_text form
shown_whole text form e few = e ∙ sym (ap (λ (b : Bool). (if b then form else codes "...")) (le-leb (length form) MOST_SHOWN_BYTES few))

shown_dots : (text form : List ℕ) → text ≡ codes "..." → MOST_SHOWN_BYTES < length form → text ≡ shown_text form
shown_dots text form e many =
    elim (leb_tells (length form) MOST_SHOWN_BYTES) [ inl fits ↦ absurd (omega (arith, fits.1, many)) | inr longer ↦ e ∙ sym (ap (λ (b : Bool). (if b then form else codes "...")) longer.0) ]

-- the text of a value whose printed form is too long
pub dots_told :
    (M : Image) (store : StoreSeen) (v : MachineValue) (fault : ShowFault) (r : Result (List ℕ) Memory) → fault ≡ too_long →
    ((w : World MValue) → w.objects ≡ objects_of store → IsShown MOST_SHOWN_BYTES (printed machine_values (image_names M) w (value_in (trees_of store) v)) (Err fault)) →
    IfOk r (λ text. text ≡ codes "...") → IfOk r (IsTextOf M store v)
dots_told M store v fault (Ok text) is long e = λ w same.
    let form = printed machine_values (image_names M) w (value_in (trees_of store) v) in
    shown_dots text form e (subst (λ (f : ShowFault). IsShown MOST_SHOWN_BYTES form (Err f)) is (long w same))
dots_told M store v fault (Err none) is long e = tt

-- Stacks.

pub reverse_map : {A B : Type 0} (f : A → B) (xs : List A) → reverse (map f xs) ≡ map f (reverse xs)
reverse_map f [] = refl
reverse_map f (x ∷ xs) = rw (reverse-cons, reverse_map f xs, reverse-cons, map-append) refl

-- the values of a stack, from the bottom to the top
upside : (T : Trees) (values : List MachineValue) (stack : List MValue) → values_in T (reverse values) ≡ stack → values_in T values ≡ reverse stack
upside T values stack e = sym (ap reverse (sym e) ∙ reverse_map (value_in T) (reverse values) ∙ ap (map (value_in T)) (reverse-reverse values))

-- the text of one value more
pub one_text_more :
    (f : MachineValue → List ℕ) (vs : List MachineValue) (i : ℕ) (v : MachineValue) (texts now : List (List ℕ)) (text : List ℕ) →
    i < length vs → texts ≡ map f (take i vs) → text ≡ f (get_or vs i v) → now ≡ texts ++ text ∷ [] → now ≡ map f (take (i + 1) vs)
one_text_more f vs i v texts now text below before told added = rw (added, before, told, take_more vs i v below) (sym (map-append f (take i vs) (get_or vs i v ∷ [])))

one_by_one : (f : MValue → List ℕ) (T : Trees) (vs : List MachineValue) → map (λ v. f (value_in T v)) vs ≡ map f (values_in T vs)
one_by_one f T [] = refl
one_by_one f T (v ∷ vs) = ap (λ (ts : List (List ℕ)). f (value_in T v) ∷ ts) (one_by_one f T vs)

-- the texts of a machine's stack, out of those of its values
pub stack_told :
    (machine : MachineSeen) (values : List MachineValue) (r : Result (List (List ℕ)) Memory) → values_in (trees_of machine.store) (reverse values) ≡ stack_in machine → IfOk r (AreTextsOf machine.image machine.store values) → IfOk r (AreStackTexts machine)
stack_told machine values (Ok texts) e are = λ w same. are w same ∙ one_by_one (machine_text machine.image w) (trees_of machine.store) values ∙ ap (map (machine_text machine.image w)) (upside (trees_of machine.store) values (stack_in machine) e)
stack_told machine values (Err fault) e are = tt

-- Errors.

-- the report of an error with a value, out of the value's text
pub report_told :
    (machine : MachineSeen) (e : RunError) (word : Name) (v : MachineValue) (text : List ℕ) (M : Image) (store : StoreSeen) →
    M ≡ machine.image → store ≡ machine.store → word ≡ image_word_name M e.word → e.value ≡ Some v → IsTextOf M store v text → IsReportOf machine e (report.Error e.name word (Some text))
report_told machine e word v text M store image stored named some is =
    let told : IsTextOf machine.image machine.store v text = subst (λ (I : Image). IsTextOf I machine.store v text) image (subst (λ (s : StoreSeen). IsTextOf M s v text) stored is) in
    λ w same. rw (named, some, image) (ap (λ (t : List ℕ). report.Error e.name (image_word_name machine.image e.word) (Some t)) (told w same))
