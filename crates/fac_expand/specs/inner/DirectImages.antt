-- That an image has direct code for each direct phrase of the plain image that it is made of.
use Rattle.std.specs.Prelude.{◌≡◌, ◌<◌, ℕ, List, Some, slice_get}
use Rattle.fac_code.specs.declared.image.Action.{Action}
use Rattle.fac_code.specs.declared.image.Action.TheVariants as action
use Rattle.fac_code.specs.declared.image.WordRow.{WordRow}
use Rattle.fac_code.specs.declared.image.Image.{Image}
use Rattle.fac_carry.specs.Direct.{TailsLeaveNone}
use Rattle.fac_expand.specs.declared.plan.Use.{Use}
use Rattle.fac_expand.specs.inner.Bodies.{IsDirectBody}
use Rattle.fac_expand.specs.inner.DirectPlaces.{IsDirectPlace}

module _ (N : Image) (uses : List Use) (M : Image) where
  -- the code of a word in the plain image is that of a direct phrase
  abbrev pub IsDirectWord : ℕ → Type 0
  IsDirectWord w = (a : ℕ) (r : WordRow) → slice_get N.words w ≡ Some r → r.action ≡ action.Code a → IsDirectPlace N uses a

  -- what a word does has direct code, where that of the plain image is that of a direct phrase
  abbrev pub HasDirectAction : ℕ → Action → Type 0
  HasDirectAction w x = (b : ℕ) → x ≡ action.Code b → IsDirectWord w → IsDirectBody uses M b

  -- so it is of each word below a number
  abbrev pub HaveDirectActions : ℕ → Type 0
  HaveDirectActions count = (w : ℕ) → w < count → (s : WordRow) → slice_get M.words w ≡ Some s → HasDirectAction w s.action

  -- The code of each word below the top-level phrase and of that phrase is direct, where its plain code is that of a direct phrase. No call leaves a return
  -- entry before a `ret`.
  pub record IsDirectOf (top : ℕ) : Type 0 where
    pub words : HaveDirectActions top
    pub start : IsDirectPlace N uses N.start → IsDirectBody uses M M.start
    pub tails : TailsLeaveNone M
