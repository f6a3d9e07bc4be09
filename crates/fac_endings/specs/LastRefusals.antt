-- What the end of a program shows to be refused.
use Rattle.std.specs.Prelude.{ℕ, suc, ◌+◌, nat_lt, List, [], ◌∷◌, ◌++◌, length, Option, Some, None, Bool, true, false, ◌&&◌, not, if◌then◌else◌}
use Rattle.std.specs.List.{list_any}
use Rattle.fac_base.specs.declared.limits.TheConstants.{MOST_SLOTS}
use Rattle.fac_lang.specs.Whole.{reaches, same_method}
use Rattle.fac_lang.specs.declared.program.ClassDef.{ClassDef}
use Rattle.fac_lang.specs.declared.program.Sort.{Sort}
use Rattle.fac_lang.specs.declared.program.Sort.TheVariants.{Generic as generic}
use Rattle.fac_lang.specs.declared.program.WordDef.{WordDef}
use Rattle.fac_source.specs.declared.refusal.NameFault.{NameFault}
use Rattle.fac_source.specs.declared.refusal.NameKind.TheVariants.{Twice, NotClass, NotGeneric, BadParent, Cycle, Undefined}
use Rattle.fac_source.specs.declared.tok.Ref.{Ref}
use Rattle.fac_source.specs.declared.tok.Tok.{Tok}
use Rattle.fac_source.specs.Refusals.{fault, fault_if}
use Rattle.fac_source.specs.Toks.{is_among}
use Rattle.fac_endings.specs.declared.draft.Draft.{Draft}
use Rattle.fac_endings.specs.declared.draft.Late.{Late}
use Rattle.fac_endings.specs.declared.draft.Late.TheVariants.{Settled as settled, Deferred as deferred, Maker as maker, Method as method_of}
use Rattle.fac_endings.specs.declared.draft.Named.{Named}
use Rattle.fac_endings.specs.declared.draft.Named.TheVariants.{Tuple as a_tuple, Union as a_union, Single as a_single}
use Rattle.fac_endings.specs.declared.draft.NewClass.{NewClass}
use Rattle.fac_endings.specs.ClassTable.{class_at, classes_of, inherited, is_tuple_class, word_at}
use Rattle.fac_endings.specs.FinishedWords.{finished}

-- Classes.

-- slots that repeat one of their list or of a parent
abbrev pub slot_faults : List (List ℕ) → List Tok → List NameFault
slot_faults earlier [] = []
slot_faults earlier (t ∷ ts) = fault_if (is_among t.text earlier) Twice t ++ slot_faults (t.text ∷ earlier) ts

abbrev pub class_fault : Option ℕ → Tok → List NameFault
class_fault (Some c) t = []
class_fault None t = fault NotClass t ∷ []

abbrev pub not_a_class : List Draft → Ref → List NameFault
not_a_class ds r = class_fault (class_at ds r) r.tok

abbrev pub members_faults : List Draft → List Ref → List NameFault
members_faults ds [] = []
members_faults ds (r ∷ rs) = not_a_class ds r ++ members_faults ds rs

-- a parent that is no tuple class
abbrev pub parent_fault : List Draft → List ClassDef → Ref → List NameFault
parent_fault ds cs r = fault_if (not (is_tuple_class cs (class_at ds r))) BadParent r.tok

-- A tuple class with its parents has at most so many slots.
abbrev pub most_slots : ℕ
most_slots = MOST_SLOTS

abbrev pub too_many : List ClassDef → ℕ → List Tok → Bool
too_many cs c slots = nat_lt most_slots (length slots + length (inherited cs c))

-- Where the slots are too many, it is the parent that is refused, which stands before them.
abbrev pub tuple_faults : List Draft → List ClassDef → ℕ → Option Ref → List Tok → List NameFault
tuple_faults ds cs c None slots = slot_faults [] slots
tuple_faults ds cs c (Some r) slots =
    if too_many cs c slots then fault BadParent r.tok ∷ []
    else parent_fault ds cs r ++ slot_faults (inherited cs c) slots

abbrev pub named_faults : List Draft → List ClassDef → ℕ → Named → List NameFault
named_faults ds cs c (a_tuple parent slots) = tuple_faults ds cs c parent slots
named_faults ds cs c (a_union rs) = members_faults ds rs
named_faults ds cs c a_single = []

-- the refusals of classes, the first of which has number c
abbrev pub class_faults : List Draft → List ClassDef → ℕ → List NewClass → List NameFault
class_faults ds cs c [] = []
class_faults ds cs c (d ∷ more_classes) = fault_if (reaches (length cs) cs c c) Cycle d.tok ++ named_faults ds cs c d.names ++ class_faults ds cs (suc c) more_classes

-- Words.

abbrev pub is_generic_sort : Sort → Bool
is_generic_sort generic = true
is_generic_sort _ = false

abbrev pub is_generic_word : Option WordDef → Bool
is_generic_word None = false
is_generic_word (Some d) = is_generic_sort d.sort

-- a method, and whether there is one already of its generic on its class
abbrev pub method_faults : List Draft → Bool → Ref → Ref → List NameFault
method_faults ds is_second c g = not_a_class ds c ++ fault_if (not (is_generic_word (word_at ds g))) NotGeneric g.tok ++ fault_if (is_generic_word (word_at ds g) && is_second) Twice g.tok

-- a word by what is late of it
abbrev pub late_faults : List Draft → List ClassDef → Bool → WordDef → Late → List NameFault
late_faults ds cs is_second w settled = []
late_faults ds cs is_second w deferred = fault Undefined (record { text = w.name.name; place = w.place }) ∷ []
late_faults ds cs is_second w (maker r) = fault_if (not (is_tuple_class cs (class_at ds r))) NotClass r.tok
late_faults ds cs is_second w (method_of c g) = method_faults ds is_second c g

-- the refusals of words; the list has the finished words before these
abbrev pub words_faults : List Draft → List ClassDef → List WordDef → List Draft → List NameFault
words_faults ds cs earlier [] = []
words_faults ds cs earlier (d ∷ more_words) =
    let done = finished ds cs d in
    late_faults ds cs (list_any (same_method done) earlier) d.word d.late ++ words_faults ds cs (done ∷ earlier) more_words

-- those of a program's words and classes
abbrev pub last_faults : List Draft → List ClassDef → List NewClass → List NameFault
last_faults ds old new = let cs = classes_of ds old new in words_faults ds cs [] ds ++ class_faults ds cs (length old) new
