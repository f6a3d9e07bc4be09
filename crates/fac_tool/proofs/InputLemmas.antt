-- The input of which something is told.
use Rattle.std.proofs.Common.{◌≡◌, ℕ, List, [], ◌++◌, Bool, None, Some, refl, ap, sym, subst, ◌∙◌}
use Rattle.std.proofs.lemmas.List.{append_assoc}
use Rattle.std.specs.Io.KnownBytes.{Consumes}
use Rattle.std.specs.declared.option.Option.{Option}
use Rattle.fac_io.specs.Told.{Stays, Stays-same}
use Rattle.fac_lines.specs.Channels.{ChannelsTold, IsUnread as AreUnread}
use Rattle.fac_lines.specs.Inputs.{InputTold, ReadsInput}
use Rattle.fac_lines.specs.LineAnswers.{bytes_left, AtEnd, MayCome}
use Rattle.fac_tool.specs.SeenObjects.{InputSeen, OnInput, IsUnread, input_seen}

-- what holds on an input leads to more
pub onward : {seen : InputSeen} {A B : List ℕ → List ℕ → Type 0} → ((input left : List ℕ) → A input left → B input left) → OnInput seen A → OnInput seen B
onward f h = record { input = h.input; left = h.left; is_input = h.is_input; holds = f h.input h.left h.holds }

-- of an input of which nothing was taken all is left
unread_by : (before now : Option (List ℕ)) (m n : ℕ) {Holds : List ℕ → List ℕ → Type 0} → Stays before now → ((input : List ℕ) → Holds input input) → OnInput (record { before = before; now = now; faults_before = m; faults_now = n }) Holds
unread_by None now m n same h = record { input = []; left = []; is_input = tt; holds = h [] }
unread_by (Some xs) None m n same h = absurd same
unread_by (Some xs) (Some ys) m n same h = record { input = xs; left = xs; is_input = (refl, same); holds = h xs }

pub on_unread : (seen : InputSeen) {Holds : List ℕ → List ℕ → Type 0} → IsUnread seen → ((input : List ℕ) → Holds input input) → OnInput seen Holds
on_unread seen unread h = unread_by seen.before seen.now seen.faults_before seen.faults_now unread.left h

-- channels with which nothing was done
pub still_unread : (still : ChannelsTold) → IsUnread (input_seen still still)
still_unread still = record { left = Stays-same (bytes_left still.input.kept still.input.left); count = refl }

pub on_still : (still : ChannelsTold) {Holds : List ℕ → List ℕ → Type 0} → ((input : List ℕ) → Holds input input) → OnInput (input_seen still still) Holds
on_still still h = on_unread (input_seen still still) (still_unread still) h

-- channels of which nothing was read
pub input_unread : (old new : ChannelsTold) → AreUnread old new → IsUnread (input_seen old new)
input_unread old new unread = record {
  left = subst (λ (now : InputTold). Stays (bytes_left old.input.kept old.input.left) (bytes_left now.kept now.left)) (sym unread.input) (Stays-same (bytes_left old.input.kept old.input.left));
  count = unread.faults;
}

-- so what was read before that is all
pub same_input : (old mid new : ChannelsTold) → AreUnread mid new → input_seen old mid ≡ input_seen old new
same_input old mid new unread =
    let input : mid.input ≡ new.input = sym unread.input in
    let faults : mid.input_faults ≡ new.input_faults = sym unread.faults in
    λ i. record { before = bytes_left old.input.kept old.input.left; now = bytes_left (input i).kept (input i).left; faults_before = old.input_faults; faults_now = faults i }

-- an input of which the bytes are told, where the source gave these behind those that were kept
abbrev lines_tell : Option (List ℕ) → Option (List ℕ) → List ℕ → List ℕ → ℕ → ℕ → InputSeen
lines_tell before after kept kept' m n = record { before = bytes_left kept before; now = bytes_left kept' after; faults_before = m; faults_now = n }

-- What holds whatever may come holds of the bytes that are told, or of none.
on_lines :
    (before after : Option (List ℕ)) (kept kept' given : List ℕ) (ended : Bool) (m n : ℕ) {Holds : List ℕ → List ℕ → Type 0} →
    AtEnd ended after → Consumes before after given → ((more : List ℕ) → MayCome ended more → Holds ((kept ++ given) ++ more) (kept' ++ more)) → OnInput (lines_tell before after kept kept' m n) Holds
on_lines None after kept kept' given ended m n at_end consumed comes = record { input = (kept ++ given) ++ []; left = kept' ++ []; is_input = tt; holds = comes [] (λ e. refl) }
on_lines (Some xs) None kept kept' given ended m n at_end consumed comes = absurd consumed
on_lines (Some xs) (Some ys) kept kept' given ended m n at_end consumed comes = record {
  input = (kept ++ given) ++ ys;
  left = kept' ++ ys;
  is_input = (ap (λ (bs : List ℕ). kept ++ bs) consumed ∙ sym (append_assoc kept given ys), refl);
  holds = comes ys (λ e. at_end e);
}

pub on_channels : (old new : ChannelsTold) {Holds : List ℕ → List ℕ → Type 0} → AtEnd new.input.ended new.input.left → ReadsInput old.input new.input Holds → OnInput (input_seen old new) Holds
on_channels old new {Holds = Holds} at_end h =
    on_lines old.input.left new.input.left old.input.kept new.input.kept h.given new.input.ended old.input_faults new.input_faults {Holds = Holds} at_end h.consumed h.comes
