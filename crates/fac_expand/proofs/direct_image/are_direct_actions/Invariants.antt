use Rattle.std.proofs.Common.{◌≡◌, ◌<◌, ℕ, Some}
use Rattle.std.specs.Prelude.{slice_get}
use Rattle.fac_code.specs.declared.image.WordRow.{WordRow}
use Rattle.fac_expand.specs.inner.DirectImages.{HasDirectAction}
use Rattle.fac_expand.proofs.direct_image.are_direct_actions.Given as goal

abbrev pub invariant-loop-word : goal.invariant-loop-word
invariant-loop-word l = (w : ℕ) → w < l.word → (s : WordRow) → slice_get l.image.words w ≡ Some s → HasDirectAction l.plain l.uses l.image w s.action
