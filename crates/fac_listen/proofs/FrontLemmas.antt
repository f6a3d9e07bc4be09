-- A session in one line more, and to its end.
use Rattle.std.proofs.Common.{◌≡◌, ◌<◌, ◌≤◌, ◌+◌, ◌-◌, ◌^◌, min, ℕ, zero, suc, List, [], ◌∷◌, ◌++◌, length, Option, Some, None, option_map, refl, sym, ap, ◌∙◌, subst, arith, append_assoc, append-nil}
use Rattle.fac_lines.specs.LineReads.{LineRead, NoLine, Line, LineTooLong, line_of}
use Rattle.fac_notes.specs.declared.report.Report.{Report}
use Rattle.fac_notes.specs.declared.status.TheConstants.{SYNTAX_REFUSED}
use Rattle.fac_notes.specs.Sources.{Source}
use Rattle.fac_session.specs.Heard.{Heard, at_end, before, ended_with, heard, most_ticks, ticks_of, told_of, too_long}
use Rattle.fac_session.specs.Sessions.{Session}
use Rattle.fac_session.specs.SessionLines.{Behind, line}
use Rattle.fac_listen.specs.Fronts.{Front, front_of, with_first, with_last, behind_first, lines_behind, left_by, left_behind, StandsBehindLines}
use Rattle.fac_listen.proofs.LineInputs.{line_falls, rest_shorter}

-- One line more.

ticks_join : (a b c : ℕ) → min (a + min (b + c) most_ticks) most_ticks ≡ min (min (a + b) most_ticks + c) most_ticks
ticks_join a b c = omega arith

ticks_alone : (a : ℕ) → min (a + 0) most_ticks ≡ min (0 + a) most_ticks
ticks_alone a = omega arith

first_and_last : (b c : Behind) (f : Front) → with_first b (with_last f c) ≡ with_last (with_first b f) c
first_and_last b c f = λ i. record {
  session = c.session;
  left = c.left;
  output = sym (append_assoc b.output f.output c.output) i;
  told = sym (append_assoc (told_of b.said) f.told (told_of c.said)) i;
  ticks = ticks_join (ticks_of b.said) f.ticks (ticks_of c.said) i;
}

first_alone : (b : Behind) (s : Session) (input : List ℕ) → with_first b (front_of b.session b.left) ≡ with_last (front_of s input) b
first_alone b s input = λ i. record {
  session = b.session;
  left = b.left;
  output = append-nil b.output i;
  told = append-nil (told_of b.said) i;
  ticks = ticks_alone (ticks_of b.said) i;
}

-- what was put before a front, where there is one
mapped : (g : Front → Front) (o : Option Front) (f : Front) → option_map g o ≡ Some f → (e : Front) × (o ≡ Some e) × (g e ≡ f)
mapped g None f h = absurd (cc)
mapped g (Some e) f h = (e, refl, cc)

module _ (source : List ℕ → Source) where
  -- a line more behind these
  abbrev OneMore : (Session → List ℕ → Option Front) → (Session → List ℕ → Option Front) → Type 0
  OneMore follow more = (s : Session) (input : List ℕ) (f : Front) (bytes rest : List ℕ) → follow s input ≡ Some f → line_of f.left ≡ Line bytes rest → more s input ≡ Some (with_last f (line source f.session bytes rest))

  more_behind : (s : Session) (follow more : Session → List ℕ → Option Front) → OneMore follow more → (r : LineRead) (f : Front) (bytes rest : List ℕ) → behind_first source s follow r ≡ Some f → line_of f.left ≡ Line bytes rest → behind_first source s more r ≡ Some (with_last f (line source f.session bytes rest))
  more_behind s follow more again NoLine f bytes rest e h = absurd (cc)
  more_behind s follow more again (LineTooLong left) f bytes rest e h = absurd (cc)
  more_behind s follow more again (Line bs left) f bytes rest e h =
      let b : Behind = line source s bs left in
      let m : (g : Front) × (follow b.session b.left ≡ Some g) × (with_first b g ≡ f) = mapped (with_first b) (follow b.session b.left) f e in
      subst (λ (x : Front). line_of x.left ≡ Line bytes rest → option_map (with_first b) (more b.session b.left) ≡ Some (with_last x (line source x.session bytes rest))) m.2
      (λ h'. ap (option_map (with_first b)) (again b.session b.left m.0 bytes rest m.1 h') ∙ ap Some (first_and_last b (line source m.0.session bytes rest) m.0)) h

  none_behind : (s : Session) (input : List ℕ) (f : Front) (bytes rest : List ℕ) → front_of s input ≡ f → line_of f.left ≡ Line bytes rest → lines_behind source 1 s input ≡ Some (with_last f (line source f.session bytes rest))
  none_behind s input f bytes rest e h =
      subst (λ (x : Front). line_of x.left ≡ Line bytes rest → lines_behind source 1 s input ≡ Some (with_last x (line source x.session bytes rest))) e
      (λ h'. ap (behind_first source s (lines_behind source 0)) h' ∙ ap Some (first_alone (line source s bytes rest) s input)) h

  one_more : (n : ℕ) → OneMore (lines_behind source n) (lines_behind source (suc n))
  one_more zero s input f bytes rest e h = none_behind s input f bytes rest (cc) h
  one_more (suc n) s input f bytes rest e h = more_behind s (lines_behind source n) (lines_behind source (suc n)) (one_more n) (line_of input) f bytes rest e h

  pub stands_more : (s : Session) (input : List ℕ) (f : Front) (bytes rest : List ℕ) → StandsBehindLines source s input f → line_of f.left ≡ Line bytes rest → StandsBehindLines source s input (with_last f (line source f.session bytes rest))
  stands_more s input f bytes rest stands h = record { count = suc stands.count; are = one_more stands.count s input f bytes rest stands.are h }

  pub stands_first : (s : Session) (input : List ℕ) → StandsBehindLines source s input (front_of s input)
  stands_first s input = record { count = 0; are = refl }

  -- To the end.

  pub heard_line : (n : ℕ) (s : Session) (input bytes rest : List ℕ) → line_of input ≡ Line bytes rest → heard source (suc n) s input ≡ before (line source s bytes rest) (heard source n (line source s bytes rest).session (line source s bytes rest).left)
  heard_line n s input bytes rest e = rw (e, heard) refl

  pub heard_none : (n : ℕ) (s : Session) (input : List ℕ) → line_of input ≡ NoLine → heard source (suc n) s input ≡ at_end s.waiting (source s.waiting)
  heard_none n s input e = rw (e, heard) refl

  pub heard_long : (n : ℕ) (s : Session) (input rest : List ℕ) → line_of input ≡ LineTooLong rest → heard source (suc n) s input ≡ ended_with SYNTAX_REFUSED (Some too_long)
  heard_long n s input rest e = rw (e, heard) refl

  -- a session that ends behind some lines
  abbrev pub behind_front : Front → ℕ → Option Report → Heard
  behind_front f status refusal = record { status = status; ticks = f.ticks; refusal = refusal; output = f.output; told = f.told }

  -- the session ends so behind these lines, and this is left of the input
  abbrev EndsThere : Front → ℕ → Option Report → Type 0
  EndsThere f status refusal = (n : ℕ) → heard source (suc n) f.session f.left ≡ ended_with status refusal

  abbrev LeavesThere : Front → List ℕ → Type 0
  LeavesThere f left = (n : ℕ) → left_behind source (suc n) f.session f.left ≡ left

  module _ (status : ℕ) (refusal : Option Report) where
    abbrev HeardIs : ℕ → (Session → List ℕ → Option Front) → Type 0
    HeardIs n follow = (s : Session) (input : List ℕ) (f : Front) → follow s input ≡ Some f → length input < n → EndsThere f status refusal → heard source n s input ≡ behind_front f status refusal

    heard_first : (n : ℕ) (s : Session) (input : List ℕ) (follow : Session → List ℕ → Option Front) → HeardIs n follow → (r : LineRead) → line_of input ≡ r → (f : Front) → behind_first source s follow r ≡ Some f → length input < suc n → EndsThere f status refusal → heard source (suc n) s input ≡ behind_front f status refusal
    heard_first n s input follow again NoLine is f e le h = absurd (cc)
    heard_first n s input follow again (LineTooLong left) is f e le h = absurd (cc)
    heard_first n s input follow again (Line bs left) is f e le h =
        let b : Behind = line source s bs left in
        let m : (g : Front) × (follow b.session b.left ≡ Some g) × (with_first b g ≡ f) = mapped (with_first b) (follow b.session b.left) f e in
        subst (λ (x : Front). EndsThere x status refusal → heard source (suc n) s input ≡ behind_front x status refusal) m.2
        (λ h'. heard_line n s input bs left is ∙ ap (before b) (again b.session b.left m.0 m.1 (omega (arith, line_falls source s bs left, rest_shorter input bs left is, le)) h')) h

    heard_zero : (n : ℕ) → HeardIs n (lines_behind source 0)
    heard_zero zero s input f e le h = absurd (omega (arith, le))
    heard_zero (suc n) s input f e le h =
        let same : front_of s input ≡ f = cc in
        subst (λ (x : Front). EndsThere x status refusal → heard source (suc n) s input ≡ behind_front x status refusal) same (λ h'. h' n) h

    heard_is : (k n : ℕ) → HeardIs n (lines_behind source k)
    heard_is zero n s input f e le h = heard_zero n s input f e le h
    heard_is (suc k) zero s input f e le h = absurd (omega (arith, le))
    heard_is (suc k) (suc n) s input f e le h = heard_first n s input (lines_behind source k) (heard_is k n) (line_of input) refl f e le h

  module _ (left : List ℕ) where
    abbrev LeftIs : ℕ → (Session → List ℕ → Option Front) → Type 0
    LeftIs n follow = (s : Session) (input : List ℕ) (f : Front) → follow s input ≡ Some f → length input < n → LeavesThere f left → left_behind source n s input ≡ left

    left_first : (n : ℕ) (s : Session) (input : List ℕ) (follow : Session → List ℕ → Option Front) → LeftIs n follow → (r : LineRead) → line_of input ≡ r → (f : Front) → behind_first source s follow r ≡ Some f → length input < suc n → LeavesThere f left → left_by source s (left_behind source n) r ≡ left
    left_first n s input follow again NoLine is f e le h = absurd (cc)
    left_first n s input follow again (LineTooLong rest) is f e le h = absurd (cc)
    left_first n s input follow again (Line bs rest) is f e le h =
        let b : Behind = line source s bs rest in
        let m : (g : Front) × (follow b.session b.left ≡ Some g) × (with_first b g ≡ f) = mapped (with_first b) (follow b.session b.left) f e in
        subst (λ (x : Front). LeavesThere x left → left_behind source n b.session b.left ≡ left) m.2
        (λ h'. again b.session b.left m.0 m.1 (omega (arith, line_falls source s bs rest, rest_shorter input bs rest is, le)) h') h

    left_zero : (n : ℕ) → LeftIs n (lines_behind source 0)
    left_zero zero s input f e le h = absurd (omega (arith, le))
    left_zero (suc n) s input f e le h =
        let same : front_of s input ≡ f = cc in
        subst (λ (x : Front). LeavesThere x left → left_behind source (suc n) s input ≡ left) same (λ h'. h' n) h

    left_is : (k n : ℕ) → LeftIs n (lines_behind source k)
    left_is zero n s input f e le h = left_zero n s input f e le h
    left_is (suc k) zero s input f e le h = absurd (omega (arith, le))
    left_is (suc k) (suc n) s input f e le h = left_first n s input (lines_behind source k) (left_is k n) (line_of input) refl f e le h

  -- a session whose lines end there comes to what it came to till then
  pub heard_to_the_end : (s : Session) (input : List ℕ) (f : Front) (status : ℕ) (refusal : Option Report) → StandsBehindLines source s input f → EndsThere f status refusal → heard source (suc (length input)) s input ≡ behind_front f status refusal
  heard_to_the_end s input f status refusal stands h = heard_is status refusal stands.count (suc (length input)) s input f stands.are (omega arith) h

  pub left_at_the_end : (s : Session) (input left : List ℕ) (f : Front) → StandsBehindLines source s input f → LeavesThere f left → left_behind source (suc (length input)) s input ≡ left
  left_at_the_end s input left f stands h = left_is left stands.count (suc (length input)) s input f stands.are (omega arith) h

  -- the ends that there are
  pub no_line_ends : (f : Front) (status : ℕ) (refusal : Option Report) → line_of f.left ≡ NoLine → at_end f.session.waiting (source f.session.waiting) ≡ ended_with status refusal → EndsThere f status refusal
  no_line_ends f status refusal none is n = heard_none n f.session f.left none ∙ is

  pub no_line_leaves : (f : Front) → line_of f.left ≡ NoLine → LeavesThere f []
  no_line_leaves f none n = ap (left_by source f.session (left_behind source n)) none

  pub long_line_ends : (f : Front) (rest : List ℕ) → line_of f.left ≡ LineTooLong rest → EndsThere f SYNTAX_REFUSED (Some too_long)
  long_line_ends f rest long n = heard_long n f.session f.left rest long

  pub long_line_leaves : (f : Front) (rest : List ℕ) → line_of f.left ≡ LineTooLong rest → LeavesThere f rest
  long_line_leaves f rest long n = ap (left_by source f.session (left_behind source n)) long
