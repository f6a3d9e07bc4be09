-- Reads and writes after others.
use Rattle.std.proofs.Common.{ℕ, ◌++◌, List, [], length, take, None, Some, Result, Ok, Err, ap, ◌∙◌, sym, ◌+◌, ◌≤◌, drop, append_assoc, append-nil, IfSome, ◌<◌, ◌≡◌, arith, length-append}
use Rattle.std.specs.declared.option.Option.{Option}
use Rattle.std.specs.Io.KnownBytes.{Keeps, Consumes, Appends, ReadConsumes, IsAtEnd}
use Rattle.std.proofs.Math.Seq.{take-add}
use Rattle.fac_io.specs.Told.{Grows, GrowsByPrefix}

pub keeps_after : (a b c : Option (List ℕ)) → Keeps a b → Keeps b c → Keeps a c
keeps_after None b c h j = tt
keeps_after (Some x) None c h j = absurd h
keeps_after (Some x) (Some y) None h j = absurd j
keeps_after (Some x) (Some y) (Some z) h j = j ∙ h

consumes_after : (a b c : Option (List ℕ)) (bs : List ℕ) → Keeps a b → Consumes b c bs → Consumes a c bs
consumes_after None b c bs h j = tt
consumes_after (Some x) None c bs h j = absurd h
consumes_after (Some x) (Some y) None bs h j = absurd j
consumes_after (Some x) (Some y) (Some z) bs h j = sym h ∙ j

pub read_after : {E : Type 0} (a b c : Option (List ℕ)) (r : Result ℕ E) (buf : List ℕ) → Keeps a b → ReadConsumes b c r buf → ReadConsumes a c r buf
read_after a b c (Ok n) buf h j = (consumes_after a b c (take n buf) h j.0, j.1)
read_after a b c (Err e) buf h j = keeps_after a b c h j

-- a write after others: what was taken is a longer front of the piece
pub write_after : (a b c : Option (List ℕ)) (piece : List ℕ) (done count : ℕ) → Grows a b (take done piece) → Appends b c (take count (drop done piece)) → Grows a c (take (done + count) piece)
write_after None b c piece done count h j = tt
write_after (Some x) None c piece done count h j = absurd h
write_after (Some x) (Some y) None piece done count h j = absurd j
write_after (Some x) (Some y) (Some z) piece done count h j = rw (j, h, take-add) (append_assoc x (take done piece) (take count (drop done piece)))

pub grows_after : (a b c : Option (List ℕ)) (bs : List ℕ) → Grows a b bs → Keeps b c → Grows a c bs
grows_after None b c bs h j = tt
grows_after (Some x) None c bs h j = absurd h
grows_after (Some x) (Some y) None bs h j = absurd j
grows_after (Some x) (Some y) (Some z) bs h j = j ∙ h

pub prefix_of_take : (a b : Option (List ℕ)) (piece : List ℕ) (n : ℕ) → Grows a b (take n piece) → n ≤ length piece → GrowsByPrefix a b piece
prefix_of_take None b piece n h l = tt
prefix_of_take (Some x) None piece n h l = absurd h
prefix_of_take (Some x) (Some y) piece n h l = (n, l, h)

pub appends_after : (a b c : Option (List ℕ)) (bs : List ℕ) → Keeps a b → Appends b c bs → Appends a c bs
appends_after None b c bs h j = tt
appends_after (Some x) None c bs h j = absurd h
appends_after (Some x) (Some y) None bs h j = absurd j
appends_after (Some x) (Some y) (Some z) bs h j = j ∙ ap (λ (t : List ℕ). t ++ bs) h

-- a reader at its end gave all that it had
pub whole_was_read : (a b c : Option (List ℕ)) (bs none : List ℕ) → Consumes a b bs → Consumes b c none → none ≡ [] → IsAtEnd c → IfSome a (λ all. all ≡ bs)
whole_was_read None b c bs none h j e end = tt
whole_was_read (Some x) None c bs none h j e end = absurd h
whole_was_read (Some x) (Some y) None bs none h j e end = absurd j
whole_was_read (Some x) (Some y) (Some z) bs none h j e end = rw (h, j, e, end) (append-nil bs)

-- what was read is at most all that there was
pub more_was_read : (a b c : Option (List ℕ)) (bs more : List ℕ) (limit : ℕ) → Consumes a b bs → Consumes b c more → limit < length bs + length more → IfSome a (λ all. limit < length all)
more_was_read None b c bs more limit h j over = tt
more_was_read (Some x) None c bs more limit h j over = absurd h
more_was_read (Some x) (Some y) None bs more limit h j over = absurd j
more_was_read (Some x) (Some y) (Some z) bs more limit h j over = rw (h, j) (omega (arith, over, length-append bs (more ++ z), length-append more z))
