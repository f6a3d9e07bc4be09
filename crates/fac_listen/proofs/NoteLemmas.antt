-- What grows, notes one behind the other, and counts.
use Rattle.std.proofs.Common.{◌≡◌, ◌<◌, ◌≤◌, ℕ, List, [], ◌∷◌, ◌++◌, length, map, Option, Some, None, refl, sym, ap, ◌∙◌, subst, arith, append_assoc, append-nil}
use Rattle.std.specs.List.{concat}
use Rattle.std.proofs.lemmas.List.{map-append}
use Rattle.std.proofs.lemmas.List.Folds.{concat-append}
use Rattle.fac_io.specs.Told.{SinkTold, Grows, one_piece}
use Rattle.fac_lines.specs.Channels.{ChannelsTold, CountsFault}
use Rattle.fac_notes.specs.Notes.{line_of as note_of}
use Rattle.fac_notes.specs.declared.report.Report.{Report}
use Rattle.fac_session.specs.Heard.{Heard as HeardOf, file_names}
use Rattle.fac_listen.specs.Devices.{DevicesTold, DevicesStand, DevicesCount, devices_of}
use Rattle.fac_listen.specs.Listens.{EndsWhole, notes_for, whole}
use Rattle.fac_listen.specs.SessionNotes.{NotesTold, AreNoted, IsNoted, EndsToldIfMemory}
use Rattle.fac_listen.specs.declared.heard.Heard.{Heard}

-- Told lists.

pub grows_none : {A : Type 0} (told : Option (List A)) → Grows told told []
grows_none None = tt
grows_none (Some xs) = sym (append-nil xs)

pub grows_then : {A : Type 0} (before mid now : Option (List A)) (first second : List A) → Grows before mid first → Grows mid now second → Grows before now (first ++ second)
grows_then None mid now first second g h = tt
grows_then (Some xs) None now first second g h = absurd g
grows_then (Some xs) (Some ys) None first second g h = absurd h
grows_then (Some xs) (Some ys) (Some zs) first second g h = h ∙ ap (λ (l : List _). l ++ second) g ∙ append_assoc xs first second

pub grows_still : {A : Type 0} (before mid now : Option (List A)) (first : List A) → Grows before mid first → now ≡ mid → Grows before now first
grows_still before mid now first g same = subst (λ (o : Option (List _)). Grows before o first) (sym same) g

-- Notes.

pub none_noted : (n : NotesTold) → AreNoted [] n n
none_noted n = record { taken = grows_none n.sink.taken; pieces = grows_none n.sink.pieces; count = refl }

pub noted_then : (first second : List (List ℕ)) (before mid now : NotesTold) → AreNoted first before mid → AreNoted second mid now → AreNoted (first ++ second) before now
noted_then first second before mid now g h = record {
  taken = subst (λ (bytes : List ℕ). Grows before.sink.taken now.sink.taken bytes) (sym (concat-append first second)) (grows_then before.sink.taken mid.sink.taken now.sink.taken (concat first) (concat second) g.taken h.taken);
  pieces = grows_then before.sink.pieces mid.sink.pieces now.sink.pieces first second g.pieces h.pieces;
  count = h.count ∙ g.count;
}

pub one_noted : (note : List ℕ) (before now : NotesTold) → 0 < length note → IsNoted note before now → AreNoted (note ∷ []) before now
one_noted [] before now some h = absurd (omega arith)
one_noted (c ∷ cs) before now some h = record {
  taken = subst (λ (bytes : List ℕ). Grows before.sink.taken now.sink.taken bytes) (sym (append-nil (c ∷ cs))) h.took.taken;
  pieces = h.took.pieces;
  count = h.count;
}

-- the notes of reports behind others
pub noted_on : (first second : List Report) (before mid now : NotesTold) → AreNoted (notes_for first) before mid → AreNoted (notes_for second) mid now → AreNoted (notes_for (first ++ second)) before now
noted_on first second before mid now g h =
    subst (λ (notes : List (List ℕ)). AreNoted notes before now) (sym (map-append (note_of file_names) first second)) (noted_then (notes_for first) (notes_for second) before mid now g h)

-- a session's ending by its last note
pub ends_whole : (h : HeardOf) (note : List ℕ) (before now : NotesTold) (heard : Heard) → 0 < length note → EndsToldIfMemory note (whole h) before now heard → EndsWhole h note before now heard
ends_whole h [] before now heard some e = absurd (omega arith)
ends_whole h (c ∷ cs) before now heard some e = e

-- Counts.

pub same_devices : (before now : ChannelsTold) → now.output ≡ before.output → now.input_faults ≡ before.input_faults → now.output_faults ≡ before.output_faults → devices_of now ≡ devices_of before
same_devices before now output input faults = λ i. record { output = output i; input_faults = input i; output_faults = faults i }

pub stand_still : (d : DevicesTold) → DevicesStand d d
stand_still d = record { input = refl; output = refl }

pub stand_then : (before mid now : DevicesTold) → DevicesStand before mid → DevicesStand mid now → DevicesStand before now
stand_then before mid now g h = record { input = h.input ∙ g.input; output = h.output ∙ g.output }

pub count_then : (before mid now : DevicesTold) (InputFailed OutputFailed : Type 0) → DevicesStand before mid → DevicesCount mid now InputFailed OutputFailed → DevicesCount before now InputFailed OutputFailed
count_then before mid now InputFailed OutputFailed g h = record {
  input = subst (λ (n : ℕ). CountsFault n now.input_faults InputFailed) g.input h.input;
  output = subst (λ (n : ℕ). CountsFault n now.output_faults OutputFailed) g.output h.output;
}
