-- The input and the output of a run: what they tell, took and counted.
use Rattle.std.specs.Prelude.{◌≡◌, ◌≤◌, ℕ, List, Bool, Result, IsErr, OnOk, refl}
use Rattle.std.specs.declared.option.Option.{Option}
use Rattle.std.specs.Coded.{Coded, code_by, coded×, coded_ℕ, coded_list, coded_bool, coded_option}
use Rattle.fac_io.specs.Faults.{HasCause, Rose}
use Rattle.fac_io.specs.Told.{SinkTold, Took}
use Rattle.fac_lines.specs.declared.line_fault.LineFault.{LineFault}
use Rattle.fac_lines.specs.Inputs.{InputTold, ReadsInput}
use Rattle.fac_lines.specs.LineAnswers.{AreWanted, LineAnswers, LineCounts}

-- what is left of the input and what was taken of the output, as far as the two tell it, and how often each failed
pub record ChannelsTold : Type 0 where
  pub input : InputTold
  pub input_faults : ℕ
  pub output : SinkTold
  pub output_faults : ℕ

input_code : Coded InputTold
input_code = code_by (List ℕ × (Bool × Option (List ℕ))) (coded× (coded_list coded_ℕ) (coded× coded_bool (coded_option (coded_list coded_ℕ)))) (λ i. (i.kept, (i.ended, i.left))) (λ p. record { kept = p.0; ended = p.1.0; left = p.1.1 }) (λ _. refl)

output_code : Coded SinkTold
output_code = code_by (Option (List ℕ) × Option (List (List ℕ))) (coded× (coded_option (coded_list coded_ℕ)) (coded_option (coded_list (coded_list coded_ℕ)))) (λ o. (o.taken, o.pieces)) (λ p. record { taken = p.0; pieces = p.1 }) (λ _. refl)

pub channels_code : Coded ChannelsTold
channels_code =
    code_by ((InputTold × ℕ) × (SinkTold × ℕ)) (coded× (coded× input_code coded_ℕ) (coded× output_code coded_ℕ)) (λ c. ((c.input, c.input_faults), (c.output, c.output_faults))) (λ p. record { input = p.0.0; input_faults = p.0.1; output = p.1.0; output_faults = p.1.1 }) (λ _. refl)

-- Something is so of what was taken of the output till then and till now, and of the bytes that were left of the input before and of those that are left now.
abbrev pub OnChannels : ChannelsTold → ChannelsTold → (SinkTold → SinkTold → List ℕ → List ℕ → Type 0) → Type 0
OnChannels before now Holds = ReadsInput before.input now.input (Holds before.output now.output)

-- A count rose where a fault was answered, and is as it was where none was.
pub record CountsFault (before now : ℕ) (Answered : Type 0) : Type 0 where
  pub later : before ≤ now
  pub cause : Answered → Rose before now
  pub stays : (Answered → ⊥) → now ≡ before

-- so of the input, where it is answered that it failed, and of the output
pub record CountsFaults (before now : ChannelsTold) (InputFailed OutputFailed : Type 0) : Type 0 where
  pub input : CountsFault before.input_faults now.input_faults InputFailed
  pub output : CountsFault before.output_faults now.output_faults OutputFailed

-- no count of faults changed
pub record CountsStand (before now : ChannelsTold) : Type 0 where
  pub input : now.input_faults ≡ before.input_faults
  pub output : now.output_faults ≡ before.output_faults

-- a count didn't fall, and is as it was unless a fault was answered
pub record StaysUnless (before now : ℕ) (Answered : Type 0) : Type 0 where
  pub later : before ≤ now
  pub stays : (Answered → ⊥) → now ≡ before

-- so of the input and the output
pub record CountsStayUnless (before now : ChannelsTold) (InputFailed OutputFailed : Type 0) : Type 0 where
  pub input : StaysUnless before.input_faults now.input_faults InputFailed
  pub output : StaysUnless before.output_faults now.output_faults OutputFailed

-- nothing was written, and no write failed
pub record IsUnwritten (before now : ChannelsTold) : Type 0 where
  pub output : now.output ≡ before.output
  pub faults : now.output_faults ≡ before.output_faults

-- nothing was read, and no read failed
pub record IsUnread (before now : ChannelsTold) : Type 0 where
  pub input : now.input ≡ before.input
  pub faults : now.input_faults ≡ before.input_faults

-- The next line was asked for, with this answer, and no byte was read behind those that it wanted. The input's count of faults rises where it
-- failed, and stays at each other answer.
pub record TakesLine (before now : ChannelsTold) (answer : Result (Option (List ℕ)) LineFault) : Type 0 where
  pub reads : ReadsInput before.input now.input (λ old new. LineAnswers old answer new)
  pub wanted : AreWanted before.input.kept reads.given
  pub counts : LineCounts before.input_faults now.input_faults answer
  pub unwritten : IsUnwritten before now

-- A piece was written, or at a failure a front of it. The output's count of faults rises where it failed, and stays otherwise.
pub record TakesPiece {A E : Type 0} (before now : ChannelsTold) (piece : List ℕ) (answer : Result A E) : Type 0 where
  pub took : Took before.output now.output piece answer
  pub cause : HasCause before.output_faults now.output_faults (IsErr answer)
  pub no_fault : OnOk answer (now.output_faults ≡ before.output_faults)
  pub unread : IsUnread before now
