-- What is loaded of a file that was opened, and saved to one that was made.
use Rattle.std.proofs.Common.{◌≡◌, ℕ, List, None, Some, Result, Ok, Err}
use Rattle.std.specs.declared.option.Option.{Option}
use Rattle.fac_io.specs.declared.files.LoadFault.{LoadFault}
use Rattle.fac_io.specs.declared.files.LoadFault.TheVariants as load
use Rattle.fac_io.specs.Told.{Grows, GrowsByPrefix}
use Rattle.fac_io.specs.Real.{LoadsFile}
use Rattle.fac_io.specs.inner.Loading.{LoadsOpened, SavesOpened}

pub loads_file : {F : Type 0} (left : F → Option (List ℕ)) (opened : Option F) (limit : ℕ) (result : Result (List ℕ) LoadFault) → LoadsOpened left opened limit result → LoadsFile left limit result
loads_file left None limit result h = rw h tt
loads_file left (Some file) limit (Ok bytes) h = (file, h)
loads_file left (Some file) limit (Err load.TooLong) h = (file, h)
loads_file left (Some file) limit (Err load.Failed) h = tt
loads_file left (Some file) limit (Err load.Memory) h = tt

-- where a save is done, a file was made
pub saved_whole : {F A : Type 0} (held : F → Option (List ℕ)) (made : Option F) (bytes : List ℕ) (done : A) → SavesOpened held made bytes (Ok done) → (file written : F) × Grows (held file) (held written) bytes
saved_whole held None bytes done h = absurd (cc)
saved_whole held (Some file) bytes done h = (file, h.0, h.1)
