-- What `check` answers on the texts of files.
use Rattle.std.specs.Prelude.{◌≡◌, ℕ, List, []}
use Rattle.std.specs.declared.option.Option.{Option}
use Rattle.fac_notes.specs.declared.report.Report.{Report}
use Rattle.fac_notes.specs.Sources.{Source}
use Rattle.fac_tool.specs.Answer.{Answer, answer_on, come_to}
use Rattle.fac_tool.specs.Sources.{AreReadWithPrelude}
use Rattle.fac_tool.specs.Plans.{checking}

-- the answer of `check` on files that come to these sources, with an empty input
abbrev pub check_answer : List Source → Answer
check_answer sources = answer_on checking.answer (come_to sources) []

-- texts come to these sources behind the prelude, and `check` refuses them so, or not
pub record IsCheckedAs (texts : List (List ℕ)) (refusal : Option Report) : Type 0 where
  pub sources : List Source
  pub are_read : AreReadWithPrelude texts sources
  pub is : refusal ≡ (check_answer sources).refusal

-- texts have one answer
abbrev pub OneRefusal : Type 0
OneRefusal = (texts : List (List ℕ)) (refusal other : Option Report) → IsCheckedAs texts refusal → IsCheckedAs texts other → refusal ≡ other
