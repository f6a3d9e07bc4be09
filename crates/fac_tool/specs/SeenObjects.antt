-- What a call did to the objects that it was handed.
use Rattle.std.specs.Prelude.{◌≡◌, ℕ, List}
use Rattle.std.specs.declared.option.Option.{Option}
use Rattle.fac_io.specs.declared.files.Asked.{Asked}
use Rattle.fac_io.specs.Names.{Held}
use Rattle.fac_io.specs.Told.{SinkTold, sink_tells, Told, Stays}
use Rattle.fac_lines.specs.Channels.{ChannelsTold}
use Rattle.fac_lines.specs.LineAnswers.{bytes_left}

-- a sink: what it tells of the bytes that it took and of their pieces, and its count of faults, before the call and now
pub record SinkSeen : Type 0 where
  pub before : SinkTold
  pub now : SinkTold
  pub faults_before : ℕ
  pub faults_now : ℕ

-- a sink of some kind, of which these tell, as it was and as it is
abbrev pub sink_seen : {S : Type 0} → (S → Option (List ℕ)) → (S → Option (List (List ℕ))) → (S → ℕ) → S → S → SinkSeen
sink_seen taken pieces faults old new =
    record { before = sink_tells (taken old) (pieces old); now = sink_tells (taken new) (pieces new); faults_before = faults old; faults_now = faults new }

-- the files: what the names held, what was asked and the count of faults, before the call and now
pub record FilesSeen : Type 0 where
  pub held_before : Option Held
  pub held_now : Option Held
  pub asked_before : Option (List Asked)
  pub asked_now : Option (List Asked)
  pub faults_before : ℕ
  pub faults_now : ℕ

-- files of some kind, of which these tell, as they were and as they are
abbrev pub files_seen : {F : Type 0} → (F → Option Held) → (F → Option (List Asked)) → (F → ℕ) → F → F → FilesSeen
files_seen held asked faults old new =
    record { held_before = held old; held_now = held new; asked_before = asked old; asked_now = asked new; faults_before = faults old; faults_now = faults new }

-- the input of channels: the bytes that are left, where that is told, and the count of faults, before the call and now
pub record InputSeen : Type 0 where
  pub before : Option (List ℕ)
  pub now : Option (List ℕ)
  pub faults_before : ℕ
  pub faults_now : ℕ

-- the input of channels, as they were and as they are
abbrev pub input_seen : ChannelsTold → ChannelsTold → InputSeen
input_seen old new =
    record { before = bytes_left old.input.kept old.input.left; now = bytes_left new.input.kept new.input.left; faults_before = old.input_faults; faults_now = new.input_faults }

-- their output
abbrev pub output_seen : ChannelsTold → ChannelsTold → SinkSeen
output_seen old new =
    record { before = old.output; now = new.output; faults_before = old.output_faults; faults_now = new.output_faults }

-- where the bytes are told, these were left before, and these are left now
abbrev pub IsInput : InputSeen → List ℕ → List ℕ → Type 0
IsInput seen input left = Told seen.before seen.now (λ before now. (before ≡ input) × (now ≡ left))

-- nothing was taken of the input, and it didn't fail
pub record IsUnread (seen : InputSeen) : Type 0 where
  pub left : Stays seen.before seen.now
  pub count : seen.faults_now ≡ seen.faults_before

-- There is an input, of which something is left, with which this holds. Where the bytes are told it is theirs.
pub record OnInput (seen : InputSeen) (Holds : List ℕ → List ℕ → Type 0) : Type 0 where
  pub input : List ℕ
  pub left : List ℕ
  pub is_input : IsInput seen input left
  pub holds : Holds input left
