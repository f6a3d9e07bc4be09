-- What reading comes to.
use Rattle.std.proofs.Common.{◌≡◌, ℕ, ◌<◌, List, [], ◌∷◌, ◌++◌, length, take, refl, ap, sym, ◌∙◌, subst, arith, Bool, true, false, Some, None, Result, Ok, Err, length-append, append_assoc, append-nil}
use Rattle.std.specs.declared.option.Option.{Option}
use Rattle.std.specs.Io.KnownBytes.{Consumes}
use Rattle.std.proofs.KnownBytes.{Consumes-trans, Consumes-nil}
use Rattle.std.proofs.Math.Seq.{take-append_seam}
use Rattle.fac_io.specs.Told.{Told}
use Rattle.fac_lines.specs.declared.line_fault.LineFault.{LineFault}
use Rattle.fac_lines.specs.declared.line_fault.LineFault.TheVariants as fault
use Rattle.fac_lines.specs.LineReads.{IsFront, Line}
use Rattle.fac_lines.specs.LineAnswers.{bytes_left, LineAnswers, AreWanted, MayCome, AtEnd, FrontWhereFailed}
use Rattle.fac_lines.specs.inner.Cutting.{Cuts, CutsRest}
use Rattle.fac_lines.specs.inner.Reading.{ReadsOn, ReadsLine}

wanted_more : (kept bytes : List ℕ) (n : ℕ) → n < length bytes → IsFront (kept ++ take n bytes) → AreWanted kept bytes
wanted_more kept [] n h f = tt
wanted_more kept (b ∷ bs) n h f = (n, h, f)

-- a read that gave a piece
pub more_on : (before mid after : Option (List ℕ)) (front all piece : List ℕ) → ReadsOn before mid front all → IsFront all → Consumes mid after piece → 0 < length piece → ReadsOn before after front (all ++ piece)
more_on before mid after front all piece on f c h =
    let begun : front ++ take (length on.given) (on.given ++ piece) ≡ all = ap (λ (t : List ℕ). front ++ t) (take-append_seam on.given piece) ∙ sym on.all in
    record {
      given = on.given ++ piece;
      consumed = Consumes-trans before mid after on.given piece on.consumed c;
      wanted = wanted_more front (on.given ++ piece) (length on.given) (omega (arith, length-append on.given piece)) (subst IsFront (sym begun) f);
      all = ap (λ (t : List ℕ). t ++ piece) on.all ∙ append_assoc front on.given piece;
    }

pub still_open : (ended : Bool) (A : Type 0) → ended ≡ false → ended ≡ true → A
still_open ended A e t = absurd (let clash : true ≡ false = sym t ∙ e in cc)

-- nothing was read
pub nothing_on : (left : Option (List ℕ)) (front : List ℕ) → ReadsOn left left front front
nothing_on left front = record { given = []; consumed = Consumes-nil left; wanted = tt; all = sym (append-nil front) }

-- a read that gave no byte
pub no_more_on : (before mid after : Option (List ℕ)) (front all piece : List ℕ) → ReadsOn before mid front all → Consumes mid after piece → length piece ≡ 0 → ReadsOn before after front all
no_more_on before mid after front all [] on c h =
    record {
      given = on.given;
      consumed = subst (Consumes before after) (append-nil on.given) (Consumes-trans before mid after on.given [] on.consumed c);
      wanted = on.wanted;
      all = on.all;
    }
no_more_on before mid after front all (b ∷ bs) on c h = absurd (omega arith)

-- an answer behind what was read so far
pub answered : (before after : Option (List ℕ)) (was_ended is_ended : Bool) (front all : List ℕ) (answer : Result (Option (List ℕ)) LineFault) (now : List ℕ) → (on : ReadsOn before after front all) → (was_ended ≡ true → on.given ≡ []) → ((more : List ℕ) → MayCome is_ended more → LineAnswers (all ++ more) answer (now ++ more)) → FrontWhereFailed now answer → ReadsLine before after was_ended is_ended front answer now
answered before after was_ended is_ended front all answer now on none h f =
    record {
      from = record {
        given = on.given;
        consumed = on.consumed;
        wanted = on.wanted;
        none = none;
        answers = λ (more : List ℕ) (m : MayCome is_ended more). subst (λ (a : List ℕ). LineAnswers (a ++ more) answer (now ++ more)) on.all (h more m);
      };
      failed = f;
    }

-- a line that was cut
pub cut_answer : (before after : Option (List ℕ)) (was_ended is_ended : Bool) (start front piece line front' piece' : List ℕ) → (on : ReadsOn before after start (front ++ piece)) → (was_ended ≡ true → on.given ≡ []) → Cuts front piece (Ok (Some line)) front' piece' → ReadsLine before after was_ended is_ended start (Ok (Some line)) (front' ++ piece')
cut_answer before after was_ended is_ended start front piece line front' piece' on none h =
    answered before after was_ended is_ended start (front ++ piece) (Ok (Some line)) (front' ++ piece') on none (λ (more : List ℕ) (m : MayCome is_ended more). h.0 more) tt

-- no line was cut
pub cut_fault : (before after : Option (List ℕ)) (was_ended is_ended : Bool) (start front piece : List ℕ) (why : LineFault) (front' piece' : List ℕ) → (on : ReadsOn before after start (front ++ piece)) → (was_ended ≡ true → on.given ≡ []) → Cuts front piece (Err why) front' piece' → ReadsLine before after was_ended is_ended start (Err why) (front' ++ piece')
cut_fault before after was_ended is_ended start front piece fault.TooLong front' piece' on none h =
    answered before after was_ended is_ended start (front ++ piece) (Err fault.TooLong) (front' ++ piece') on none (λ (more : List ℕ) (m : MayCome is_ended more). h.0 more) tt
cut_fault before after was_ended is_ended start front piece fault.Failed front' piece' on none h = absurd h
cut_fault before after was_ended is_ended start front piece fault.Memory front' piece' on none h =
    rw (h.0, h.1) (answered before after was_ended is_ended start (front ++ piece) (Err fault.Memory) (front ++ piece) on none (λ (more : List ℕ) (m : MayCome is_ended more). refl) tt)

none_failed : (line : Option (List ℕ)) (now : List ℕ) → FrontWhereFailed now (Ok line)
none_failed line now = tt

-- the line that the end of the bytes ends
rest_answers : (all : List ℕ) (line : Option (List ℕ)) (front' more : List ℕ) → CutsRest all line front' → more ≡ [] → LineAnswers (all ++ more) (Ok line) ((front' ++ []) ++ more)
rest_answers all None front' more h e = rw (e, append-nil all, append-nil front') (rw (append-nil front') (h.0, h.1))
rest_answers all (Some line) front' more h e = rw (e, append-nil all, append-nil front') (rw (append-nil front') (h.0 ∙ ap (Line line) (sym h.1)))

pub rest_answer : (before after : Option (List ℕ)) (was_ended is_ended : Bool) (start all : List ℕ) (line : Option (List ℕ)) (front' piece' : List ℕ) → (on : ReadsOn before after start all) → (was_ended ≡ true → on.given ≡ []) → is_ended ≡ true → CutsRest all line front' → length piece' ≡ 0 → ReadsLine before after was_ended is_ended start (Ok line) (front' ++ piece')
rest_answer before after was_ended is_ended start all line front' [] on none ended h e =
    answered before after was_ended is_ended start all (Ok line) (front' ++ []) on none (λ (more : List ℕ) (m : MayCome is_ended more). rest_answers all line front' more h (m ended)) (none_failed line (front' ++ []))
rest_answer before after was_ended is_ended start all line front' (b ∷ bs) on none ended h e = absurd (omega arith)

-- the public clauses
pub told_answer : (before after : Option (List ℕ)) (was_ended is_ended : Bool) (kept : List ℕ) (answer : Result (Option (List ℕ)) LineFault) (now : List ℕ) → ReadsLine before after was_ended is_ended kept answer now → AtEnd is_ended after → Told (bytes_left kept before) (bytes_left now after) (λ (b n : List ℕ). LineAnswers b answer n)
told_answer None after was_ended is_ended kept answer now r h = tt
told_answer (Some x) None was_ended is_ended kept answer now r h = absurd r.from.consumed
told_answer (Some x) (Some y) was_ended is_ended kept answer now r h =
    subst (λ (b : List ℕ). LineAnswers b answer (now ++ y)) (append_assoc kept r.from.given y ∙ ap (λ (t : List ℕ). kept ++ t) (sym r.from.consumed)) (r.from.answers y h)
