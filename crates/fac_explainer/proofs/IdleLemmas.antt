-- What nobody touched.
use Rattle.std.proofs.Common.{◌≡◌, ℕ, List, refl}
use Rattle.std.specs.declared.option.Option.{Option}
use Rattle.fac_io.specs.Told.{SinkTold, TookNothing-same, Stays-same, sink_tells}
use Rattle.fac_io.specs.Names.{Held}
use Rattle.fac_io.specs.declared.files.Asked.{Asked}
use Rattle.fac_tool.specs.Plans.{AreKept}
use Rattle.fac_tool.specs.SeenObjects.{SinkSeen, FilesSeen}
use Rattle.fac_explainer.specs.Explains.{IsUnwritten, IsIdle}

-- a sink that nobody wrote to
pub unwritten : (taken : Option (List ℕ)) (pieces : Option (List (List ℕ))) (faults : ℕ) → IsUnwritten (record { before = sink_tells taken pieces; now = sink_tells taken pieces; faults_before = faults; faults_now = faults })
unwritten taken pieces faults = record { nothing = TookNothing-same (sink_tells taken pieces); count = refl }

-- files that nobody asked, and such a sink
pub idle :
    (held : Option Held) (asked : Option (List Asked)) (count : ℕ) (taken : Option (List ℕ)) (pieces : Option (List (List ℕ))) (faults : ℕ) →
    IsIdle (record { held_before = held; held_now = held; asked_before = asked; asked_now = asked; faults_before = count; faults_now = count }) (record { before = sink_tells taken pieces; now = sink_tells taken pieces; faults_before = faults; faults_now = faults })
idle held asked count taken pieces faults = record {
  kept = record { held = Stays-same held; asked = Stays-same asked; faults = refl };
  unwritten = unwritten taken pieces faults;
}
