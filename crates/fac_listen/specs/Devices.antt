-- What listening shows of the input and the output beside the bytes of the input.
use Rattle.std.specs.Prelude.{◌≡◌, ℕ}
use Rattle.fac_io.specs.Told.{SinkTold}
use Rattle.fac_lines.specs.Channels.{ChannelsTold, CountsFault}

-- what the output tells of the bytes that it took, and how often the input and the output failed
pub record DevicesTold : Type 0 where
  pub output : SinkTold
  pub input_faults : ℕ
  pub output_faults : ℕ

-- those of channels
abbrev pub devices_of : ChannelsTold → DevicesTold
devices_of c = record { output = c.output; input_faults = c.input_faults; output_faults = c.output_faults }

-- neither failed
pub record DevicesStand (before now : DevicesTold) : Type 0 where
  pub input : now.input_faults ≡ before.input_faults
  pub output : now.output_faults ≡ before.output_faults

-- a count rose where a fault was answered, and is as it was where none was
pub record DevicesCount (before now : DevicesTold) (InputFailed OutputFailed : Type 0) : Type 0 where
  pub input : CountsFault before.input_faults now.input_faults InputFailed
  pub output : CountsFault before.output_faults now.output_faults OutputFailed
