-- What a contract sees of the forms in memory, and what their calls leave.
use Rattle.std.specs.Prelude.{◌≡◌, ◌==◌, ◌≤◌, ℕ, zero, suc, ◌+◌, min, nat_le, List, [], ◌∷◌, length, take, drop, Bool, true, false, not, ◌||◌, None, Some, is_some, if◌then◌else◌}
use Rattle.std.specs.Prelude.{Result, Ok, Err, is_none}
use Rattle.std.specs.List.{list_any}
use Rattle.std.specs.declared.option.Option.{Option}
use Rattle.fac_io.specs.declared.files.Asked.{Asked}
use Rattle.fac_io.specs.declared.files.LoadFault.{LoadFault}
use Rattle.fac_io.specs.declared.files.LoadFault.TheVariants as load
use Rattle.fac_io.specs.declared.files.SaveFault.{SaveFault}
use Rattle.fac_io.specs.declared.files.SaveFault.TheVariants as save
use Rattle.fac_io.specs.Faults.{one_more}
use Rattle.fac_io.specs.Names.{bytes_of}

-- a source: the bytes left, the calls that fail, and how many calls and faults there were
pub record MemSource : Type 0 where
  pub left : List ℕ
  pub fails : List ℕ
  pub calls : ℕ
  pub faults : ℕ

-- a source of these bytes that was not read yet
pub record IsNewSource (bytes : List ℕ) (listed : List ℕ) (source : MemSource) : Type 0 where
  pub left : source.left ≡ bytes
  pub fails : source.fails ≡ listed
  pub calls : source.calls ≡ 0
  pub faults : source.faults ≡ 0

-- whether the next read is one of those that fail
abbrev pub is_read_listed : MemSource → Bool
is_read_listed source = list_any (λ call. call == one_more source.calls) source.fails

-- a read into this many bytes: it fails exactly at a listed call, where it takes nothing, and else gives as many of the bytes left as there is room for
abbrev pub ReadLeaves : {E : Type 0} → MemSource → ℕ → Result ℕ E → MemSource → Type 0
ReadLeaves source room (Ok count) after = (is_read_listed source ≡ false) × (count ≡ min (length source.left) room) × (after ≡ record source { left = drop count source.left; calls = one_more source.calls })
ReadLeaves source room (Err fault) after = (is_read_listed source ≡ true) × (after ≡ record source { calls = one_more source.calls; faults = one_more source.faults })

-- the pieces of these sizes
abbrev pub cut : List ℕ → List ℕ → List (List ℕ)
cut [] bytes = []
cut (size ∷ sizes) bytes = take size bytes ∷ cut sizes (drop size bytes)

abbrev pub total : List ℕ → ℕ
total [] = 0
total (size ∷ sizes) = size + total sizes

-- the size of a piece, where anything was taken of it
abbrev pub one_size : ℕ → List ℕ
one_size zero = []
one_size (suc size) = suc size ∷ []

-- there is room for what a sink can still take, and its sizes are those of its bytes
pub record SinkFits (taken sizes : List ℕ) (bytes_most sizes_most space : ℕ) : Type 0 where
  pub bytes : length taken + space ≤ bytes_most
  pub pieces : length sizes + space ≤ sizes_most
  pub all : total sizes ≡ length taken

-- a sink: the bytes taken, the pieces in which they were, how many more it takes, the calls that fail with the bytes that they take, and how many calls and faults there were
pub record MemSink : Type 0 where
  pub taken : List ℕ
  pub pieces : List (List ℕ)
  pub room : ℕ
  pub fails : List (ℕ × ℕ)
  pub calls : ℕ
  pub faults : ℕ

-- the bytes that the first entry of this call takes
abbrev pub listed_take : List (ℕ × ℕ) → ℕ → Option ℕ
listed_take [] call = None
listed_take (fail ∷ fails) call = (if fail.0 == call then Some fail.1 else listed_take fails call)

-- a sink with this room that was not written yet
pub record IsNewSink (space : ℕ) (listed : List (ℕ × ℕ)) (sink : MemSink) : Type 0 where
  pub taken : sink.taken ≡ []
  pub pieces : sink.pieces ≡ []
  pub room : sink.room ≡ space
  pub fails : sink.fails ≡ listed
  pub calls : sink.calls ≡ 0
  pub faults : sink.faults ≡ 0

-- what a write takes of a piece for which there is room: all of it, or at a listed call a part
abbrev pub part_of : Option ℕ → List ℕ → List ℕ
part_of None piece = piece
part_of (Some count) piece = take count piece

-- what a write takes: nothing of a piece that passes the room
abbrev pub sink_takes : MemSink → List ℕ → List ℕ
sink_takes sink piece = (if nat_le (length piece) sink.room then part_of (listed_take sink.fails (one_more sink.calls)) piece else [])

-- whether a write fails: at a listed call, or at a piece that passes the room
abbrev pub sink_fails : MemSink → List ℕ → Bool
sink_fails sink piece = is_some (listed_take sink.fails (one_more sink.calls)) || not (nat_le (length piece) sink.room)

-- named files: the pairs, the first of a name counting, the calls that fail, the calls so far, and how many faults there were
pub record MemFiles : Type 0 where
  pub files : List (List ℕ × List ℕ)
  pub fails : List ℕ
  pub asked : List Asked
  pub faults : ℕ

-- files that were not asked yet
pub record IsNewFiles (pairs : List (List ℕ × List ℕ)) (listed : List ℕ) (folder : MemFiles) : Type 0 where
  pub files : folder.files ≡ pairs
  pub fails : folder.fails ≡ listed
  pub asked : folder.asked ≡ []
  pub faults : folder.faults ≡ 0

-- whether the next call is one of those that fail
abbrev pub is_next_listed : MemFiles → Bool
is_next_listed folder = list_any (λ call. call == length folder.asked + 1) folder.fails

-- a load fails exactly at a listed call or at a missing name, and the count rises by one exactly there
abbrev pub LoadFails : MemFiles → List ℕ → Result (List ℕ) LoadFault → MemFiles → Type 0
LoadFails folder name (Ok bytes) after = (is_next_listed folder ≡ false) × (after.faults ≡ folder.faults)
LoadFails folder name (Err load.TooLong) after = (is_next_listed folder ≡ false) × (after.faults ≡ folder.faults)
LoadFails folder name (Err load.Failed) after = ((is_next_listed folder || is_none (bytes_of folder.files name)) ≡ true) × (after.faults ≡ one_more folder.faults)
LoadFails folder name (Err load.Memory) after = after.faults ≡ folder.faults

-- a save fails exactly at a listed call, where the files stay, and the count rises by one exactly there
abbrev pub SaveFails : {A : Type 0} → MemFiles → Result A SaveFault → MemFiles → Type 0
SaveFails folder (Ok done) after = (is_next_listed folder ≡ false) × (after.faults ≡ folder.faults)
SaveFails folder (Err save.Failed) after = (is_next_listed folder ≡ true) × (after.files ≡ folder.files) × (after.faults ≡ one_more folder.faults)
SaveFails folder (Err save.Memory) after = after.faults ≡ folder.faults
