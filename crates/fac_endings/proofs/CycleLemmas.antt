-- Which classes reach themselves.
use Rattle.std.proofs.Common.{◌≡◌, ℕ, zero, suc, nat_eq, List, length, slice_get, Bool, false, Option, Some, None, Result, Ok, Err, refl, sym, ap, ◌∙◌, subst, arith}
use Rattle.std.specs.Prelude.{IfOk, ◌||◌}
use Rattle.std.specs.List.{list_any}
use Rattle.std.proofs.lemmas.List.{length-map}
use Rattle.std.proofs.lemmas.Option.{slice_get_past}
use Rattle.fac_lang.specs.Whole.{parts_of, reaches}
use Rattle.fac_base.specs.declared.memory.Memory.{Memory}
use Rattle.fac_lang.specs.Classes.{shape_at}
use Rattle.fac_lang.specs.declared.program.ClassDef.{ClassDef}
use Rattle.fac_lang.specs.declared.program.Shape.{Shape}
use Rattle.fac_graph.specs.Laws.{CyclesOfClasses, class_edges}
use Rattle.fac_graph.specs.Paths.{AreLeadingBack}
use Rattle.fac_endings.specs.inner.Cycles.{AreCycles}
use Rattle.fac_endings.proofs.ListLemmas.{none_past}

back_cycles : (cs : List ClassDef) (edges : List (List ℕ)) (flags : List Bool) → CyclesOfClasses → edges ≡ class_edges cs → AreLeadingBack edges flags → AreCycles cs flags
back_cycles cs edges flags law is h =
    let back = subst (λ (es : List (List ℕ)). AreLeadingBack es flags) is h in
    record { same_length = back.same_length ∙ length-map cs (λ (d : ClassDef). parts_of (Some d.shape)); each = law cs flags back }

-- the flag of a class that is there
pub flag_there : (cs : List ClassDef) (flags : List Bool) (c : ℕ) (b : Bool) → AreCycles cs flags → slice_get flags c ≡ Some b → b ≡ reaches (length cs) cs c c
flag_there cs flags c b h is = h.each c b is

pub none_reaches : (n : ℕ) (cs : List ClassDef) (c d : ℕ) → shape_at cs d ≡ None → reaches n cs c d ≡ false
none_reaches zero cs c d h = refl
none_reaches (suc n) cs c d h = ap (λ (o : Option Shape). list_any (λ e. nat_eq c e || reaches n cs c e) (parts_of o)) h

-- a class that isn't there
pub flag_past : (cs : List ClassDef) (flags : List Bool) (c : ℕ) → AreCycles cs flags → slice_get flags c ≡ None → false ≡ reaches (length cs) cs c c
flag_past cs flags c h none =
    let past = none_past flags c none in
    let same = h.same_length in
    sym (none_reaches (length cs) cs c c (ap (λ (o : Option ClassDef). elim o [ Some d ↦ Some d.shape | None ↦ None ]) (slice_get_past cs c (omega (arith, past, same)))))

pub cycles_are : (r : Result (List Bool) Memory) (cs : List ClassDef) (edges : List (List ℕ)) → CyclesOfClasses → edges ≡ class_edges cs → IfOk r (AreLeadingBack edges) → IfOk r (AreCycles cs)
cycles_are (Ok flags) cs edges law is h = back_cycles cs edges flags law is h
cycles_are (Err fault) cs edges law is h = tt
