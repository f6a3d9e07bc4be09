-- A session on one line behind the other, to its end.
use Rattle.std.proofs.Common.{◌≡◌, ◌<◌, ◌≤◌, ℕ, suc, List, [], ◌∷◌, ◌++◌, length, Bool, false, Option, Some, None, Result, Ok, Err, inl, inr, refl, sym, ap, ◌∙◌, subst, arith}
use Rattle.std.specs.Prelude.{◌⊎◌}
use Rattle.fac_io.specs.Told.{Grows}
use Rattle.fac_lines.specs.Channels.{ChannelsTold, OnChannels, TakesLine as TakesALine}
use Rattle.fac_lines.specs.LineAnswers.{LineAnswers}
use Rattle.fac_lines.specs.LineReads.{NoLine, Line, LineTooLong, line_of}
use Rattle.fac_lines.specs.declared.line_fault.LineFault.{LineFault}
use Rattle.fac_lines.specs.declared.line_fault.LineFault.TheVariants as fault
use Rattle.fac_lines.proofs.InputLemmas.{reads_so, reads_then, unread}
use Rattle.fac_notes.specs.Notes.{line_of as note_of}
use Rattle.fac_notes.specs.Sources.{Source, no_tree}
use Rattle.fac_notes.specs.Statuses.{status_of}
use Rattle.fac_notes.specs.declared.report.Report.{Report}
use Rattle.fac_notes.specs.declared.report.Report.TheVariants as report
use Rattle.fac_notes.specs.declared.status.TheConstants.{SUCCESS, SYNTAX_REFUSED, NO_MEMORY}
use Rattle.fac_notes.proofs.LineLemmas.{some_bytes}
use Rattle.fac_parse.specs.declared.reader.Why.TheVariants.{End}
use Rattle.fac_prelude.specs.PreludeText.{prelude_text}
use Rattle.fac_session.specs.Heard.{Heard as HeardOf, at_end, ended_with, file_names, heard, heard_from, last_note, listened, told_of, too_long}
use Rattle.fac_session.specs.Sessions.{Session, session_of}
use Rattle.fac_session.specs.SessionLines.{Behind, line}
use Rattle.fac_judge.specs.KnownTexts.{IsPreludeRefusal}
use Rattle.fac_judge.specs.TextSources.{EverySource}
use Rattle.fac_judge.specs.declared.known_texts.SessionFault.{SessionFault}
use Rattle.fac_judge.specs.declared.known_texts.SessionFault.TheVariants as unbegun
use Rattle.fac_listener.specs.Replies.{AreSources, IsFirstSession, StartsSession}
use Rattle.fac_listener.specs.StandingSessions.{HasBetween, Stands, has_ended}
use Rattle.fac_listener.specs.declared.session.Session.{Session as SessionSeen}
use Rattle.fac_listen.specs.Devices.{DevicesTold, DevicesStand, devices_of}
use Rattle.fac_listen.specs.Fronts.{Front, front_of, with_last, left_behind, left_from, LineOf, StandsBehindLines}
use Rattle.fac_listen.specs.Listens.{CutAtNote, CutBetween, CutInLine, EndsWhole, HeardWhole, Listens, ListensBy, ListensOn, notes_for, whole}
use Rattle.fac_listen.specs.SessionNotes.{NotesTold, AreNoted, EndsTold, EndsToldIfMemory, bare, memory_note, refused, too_long_note}
use Rattle.fac_listen.specs.declared.heard.Heard.{Heard}
use Rattle.fac_listen.specs.declared.hearing.Hearing.{Hearing}
use Rattle.fac_listen.specs.inner.Endings.{EndsFrom, EndsUnbegun, HeardFrom, IsInside}
use Rattle.fac_listen.specs.inner.Hearings.{IsBehind, Waits}
use Rattle.fac_listen.specs.inner.NextLines.{EndsAt, EndsAtNext, EndsThere, EndsWithout, GoesOnWith, LineEnds, NextTaken, NextTooLong, NothingLeft, NoteEnds, InputFails, NoMemoryForLine, TakesLine, TakesNext}
use Rattle.fac_listen.proofs.FrontLemmas.{behind_front, heard_to_the_end, left_at_the_end, long_line_ends, long_line_leaves, no_line_ends, no_line_leaves, stands_first, stands_more}
use Rattle.fac_listen.proofs.NoteLemmas.{count_then, ends_whole, grows_none, grows_still, grows_then, none_noted, noted_on, same_devices, stand_still, stand_then}
use Rattle.fac_listen.proofs.PreludeLemmas.{first_waits_never, is_refused, prelude_note}

-- The next line.

module _ (hearing new : Hearing) (notes_before notes_now : NotesTold) where
  -- what a line comes to that was taken, on channels
  abbrev pub LineOn : List ℕ → ChannelsTold → ChannelsTold → Option Heard → List ℕ → List ℕ → Type 0
  LineOn bytes before now result input left = (source : List ℕ → Source) (f : Front) → AreSources source → IsBehind source f hearing → TakesLine source f bytes input left (devices_of before) (devices_of now) notes_before notes_now new result

  -- what the next line comes to
  abbrev pub NextOn : ChannelsTold → ChannelsTold → Option Heard → List ℕ → List ℕ → Type 0
  NextOn before now result input left =
      (source : List ℕ → Source) (f : Front) → AreSources source → IsBehind source f hearing → f.left ≡ input → TakesNext source f hearing.waits left (devices_of before) (devices_of now) notes_before notes_now new result

  taken : (source : List ℕ → Source) (f : Front) (bytes input left : List ℕ) (before now : DevicesTold) (result : Option Heard) → line_of f.left ≡ Line bytes input → TakesLine source f bytes input left before now notes_before notes_now new result → TakesNext source f hearing.waits left before now notes_before notes_now new result
  taken source f bytes input left before now None is h = record { bytes = bytes; input = input; is_line = is; takes = h }
  taken source f bytes input left before now (Some heard) is h = inl (record { bytes = bytes; input = input; is_line = is; takes = h })

  pub next_line : (old mid now : ChannelsTold) (bytes : List ℕ) (result : Option Heard) → TakesALine old mid (Ok (Some bytes)) → OnChannels mid now (λ before after. LineOn bytes mid now result) → OnChannels old now (λ before after. NextOn old now result)
  next_line old mid now bytes result t h =
      let same : devices_of mid ≡ devices_of old = same_devices old mid t.unwritten.output t.counts t.unwritten.faults in
      reads_then old.input mid.input now.input (λ input rest. LineAnswers input (Ok (Some bytes)) rest) (LineOn bytes mid now result) (NextOn old now result) t.reads h
      (λ input rest left p q source f are behind is_left.
      taken source f bytes rest left (devices_of old) (devices_of now) result (ap line_of is_left ∙ p)
      (subst (λ (d : DevicesTold). TakesLine source f bytes rest left d (devices_of now) notes_before notes_now new result) same (q source f are behind)))

  no_line_stands : (old mid : ChannelsTold) → TakesALine old mid (Ok None) → DevicesStand (devices_of old) (devices_of mid)
  no_line_stands old mid t = record { input = t.counts; output = t.unwritten.faults }

  ends_behind : (source : List ℕ → Source) (f : Front) (heard : Heard) → IsBehind source f hearing → EndsThere hearing notes_before notes_now heard → EndsAt hearing.waits file_names f.ticks notes_before notes_now heard
  ends_behind source f heard behind h =
      subst (λ (n : ℕ). EndsAt hearing.waits file_names n notes_before notes_now heard) behind.ticks
      (subst (λ (ns : List (List ℕ)). EndsAt hearing.waits ns hearing.ticks notes_before notes_now heard) behind.names h)

  pub next_none : (old mid : ChannelsTold) (heard : Heard) → TakesALine old mid (Ok None) → EndsThere hearing notes_before notes_now heard → OnChannels old mid (λ before after. NextOn old mid (Some heard))
  next_none old mid heard t h =
      reads_so old.input mid.input (λ input rest. LineAnswers input (Ok None) rest) (NextOn old mid (Some heard)) t.reads
      (λ input left p source f are behind is_left.
      inr (inl (record { none = ap line_of is_left ∙ p.0; rest = p.1; still = t.unwritten.output; counts = no_line_stands old mid t; ends = ends_behind source f heard behind h })))

  ends_without : (why : LineFault) (source : List ℕ → Source) (f : Front) (heard : Heard) → IsBehind source f hearing → EndsWithout why hearing.ticks notes_before notes_now heard → EndsWithout why f.ticks notes_before notes_now heard
  ends_without why source f heard behind h = subst (λ (n : ℕ). EndsWithout why n notes_before notes_now heard) behind.ticks h

  pub next_fault : (old mid : ChannelsTold) (why : LineFault) (heard : Heard) → TakesALine old mid (Err why) → EndsWithout why hearing.ticks notes_before notes_now heard → OnChannels old mid (λ before after. NextOn old mid (Some heard))
  next_fault old mid fault.TooLong heard t h =
      reads_so old.input mid.input (λ input rest. LineAnswers input (Err fault.TooLong) rest) (NextOn old mid (Some heard)) t.reads
      (λ input left p source f are behind is_left.
      inr (inr (inl (record { long = ap line_of is_left ∙ p; still = t.unwritten.output; counts = record { input = t.counts; output = t.unwritten.faults }; ends = ends_without fault.TooLong source f heard behind h }))))
  next_fault old mid fault.Failed heard t h =
      reads_so old.input mid.input (λ input rest. LineAnswers input (Err fault.Failed) rest) (NextOn old mid (Some heard)) t.reads
      (λ input left p source f are behind is_left.
      inr (inr (inr (inl (record {
        rest = p ∙ sym is_left;
        still = t.unwritten.output;
        counts = record {
          input = record { later = t.counts.0; cause = λ e. t.counts.1; stays = λ none. absurd (none tt) };
          output = record { later = omega (arith, t.unwritten.faults); cause = λ e. absurd e; stays = λ none. t.unwritten.faults };
        };
        ends = ends_without fault.Failed source f heard behind h;
      })))))
  next_fault old mid fault.Memory heard t h =
      reads_so old.input mid.input (λ input rest. LineAnswers input (Err fault.Memory) rest) (NextOn old mid (Some heard)) t.reads
      (λ input left p source f are behind is_left.
      inr (inr (inr (inr (record { rest = p ∙ sym is_left; still = t.unwritten.output; counts = record { input = t.counts; output = t.unwritten.faults }; ends = ends_without fault.Memory source f heard behind h })))))

-- Behind some lines.

-- a session on channels, in which the code's one came here
abbrev pub InsideOn : Hearing → ChannelsTold → ChannelsTold → NotesTold → NotesTold → Hearing → List ℕ → List ℕ → Type 0
InsideOn first before now notes_before notes_now hearing input left =
    (source : List ℕ → Source) (s : Session) → AreSources source → IsBehind source (front_of s input) first → IsInside source s input left (devices_of before) (devices_of now) notes_before notes_now hearing

-- a session on channels that has ended
abbrev pub EndsOn : Hearing → ChannelsTold → ChannelsTold → NotesTold → NotesTold → Heard → List ℕ → List ℕ → Type 0
EndsOn first before now notes_before notes_now heard input left =
    (source : List ℕ → Source) (s : Session) → AreSources source → IsBehind source (front_of s input) first → EndsFrom source s input left (devices_of before) (devices_of now) notes_before notes_now heard

pub inside_first : (still : ChannelsTold) (notes : NotesTold) (hearing : Hearing) → has_ended hearing.session ≡ false → OnChannels still still (λ before after. InsideOn hearing still still notes notes hearing)
inside_first still notes hearing opened =
    unread still.input (InsideOn hearing still still notes notes hearing)
    (λ input source s are behind.
    record { front = front_of s input; stands = stands_first source s input; behind = behind; is_open = opened; rest = refl; output = grows_none still.output.taken; counts = stand_still (devices_of still); noted = none_noted notes })

module _ (source : List ℕ → Source) (s : Session) (input mid_left left : List ℕ) (first mid now : DevicesTold) (notes_first notes_mid notes_now : NotesTold) (old : Hearing) where
  inside_more : (new : Hearing) → IsInside source s input mid_left first mid notes_first notes_mid old → (t : (x : IsInside source s input mid_left first mid notes_first notes_mid old) → NextTaken source x.front left mid now notes_mid notes_now new None) → IsInside source s input left first now notes_first notes_now new
  inside_more new x next =
      let t : NextTaken source x.front left mid now notes_mid notes_now new None = next x in
      let b : Behind = line source x.front.session t.bytes t.input in
      let g : GoesOnWith source x.front b left mid now notes_mid notes_now new = t.takes in
      record {
        front = with_last x.front b;
        stands = stands_more source s input x.front t.bytes t.input x.stands t.is_line;
        behind = g.behind;
        is_open = g.open_still;
        rest = g.rest;
        output = grows_then first.output.taken mid.output.taken now.output.taken x.front.output b.output x.output g.output;
        counts = stand_then first mid now x.counts g.counts;
        noted = noted_on x.front.told (told_of b.said) notes_first notes_mid notes_now x.noted g.noted;
      }

  module _ (new : Hearing) (ending : Heard) (x : IsInside source s input mid_left first mid notes_first notes_mid old) where
    abbrev line_at : (bytes rest : List ℕ) → line_of x.front.left ≡ Line bytes rest → LineOf source s input
    line_at bytes rest is = record { front = x.front; stands = x.stands; bytes = bytes; rest = rest; is_line = is }

    cut_at_note : (bytes rest : List ℕ) → line_of x.front.left ≡ Line bytes rest → NoteEnds x.front (line source x.front.session bytes rest) left mid now notes_mid notes_now ending → CutAtNote source s input left first now notes_first notes_now ending
    cut_at_note bytes rest is n = record {
      at = line_at bytes rest is;
      why = n.why;
      said = n.told;
      rest = n.rest;
      output = grows_then first.output.taken mid.output.taken now.output.taken x.front.output (line source x.front.session bytes rest).output x.output n.output;
      between = notes_mid;
      noted = x.noted;
      ends = n.ends;
      counts = stand_then first mid now x.counts n.counts;
    }

    cut_in_line : (bytes rest : List ℕ) → line_of x.front.left ≡ Line bytes rest → LineEnds source x.front bytes rest left mid now notes_mid notes_now ending → CutInLine source s input left first now notes_first notes_now ending
    cut_in_line bytes rest is n = record {
      at = line_at bytes rest is;
      written = mid.output;
      output = x.output;
      cause = n.cause;
      ticks = n.ticks;
      cut = n.cut;
      between = notes_mid;
      noted = x.noted;
      ends = n.ends;
      counts = count_then first mid now _ _ x.counts n.counts;
    }

    by_taken : NextTaken source x.front left mid now notes_mid notes_now new (Some ending) → EndsFrom source s input left first now notes_first notes_now ending
    by_taken t = elim t.takes [ inl n ↦ inr (inr (inl (cut_at_note t.bytes t.input t.is_line n))) | inr n ↦ inr (inr (inr (cut_in_line t.bytes t.input t.is_line n))) ]

    -- what a session came to, by what it came to behind its lines
    heard_so : (h : HeardOf) → heard source (suc (length input)) s input ≡ h → left ≡ left_behind source (suc (length input)) s input → h.output ≡ x.front.output → h.told ≡ x.front.told → now.output ≡ mid.output → DevicesStand mid now → EndsWhole h (last_note h.refusal) notes_mid notes_now ending → HeardFrom source s input left first now notes_first notes_now ending
    heard_so h is rest output told still counts ends = record {
      rest = rest;
      output =
          subst (λ (bytes : List ℕ). Grows first.output.taken now.output.taken bytes) (sym (ap (λ (y : HeardOf). y.output) is ∙ output))
          (grows_still first.output.taken mid.output.taken now.output.taken x.front.output x.output (ap (λ o. o.taken) still));
      counts = stand_then first mid now x.counts counts;
      between = notes_mid;
      told = subst (λ (rs : List Report). AreNoted (notes_for rs) notes_first notes_mid) (sym (ap (λ (y : HeardOf). y.told) is ∙ told)) x.noted;
      ends = subst (λ (y : HeardOf). EndsWhole y (last_note y.refusal) notes_mid notes_now ending) (sym is) ends;
    }

    -- The ends.

    -- the text that waits, at the end of the lines
    record AtTheEnd (waiting : List ℕ) : Type 0 where
      status : ℕ
      refusal : Option Report
      is : at_end waiting (source waiting) ≡ ended_with status refusal
      ends : EndsWhole (behind_front source x.front status refusal) (last_note refusal) notes_mid notes_now ending

    end_is : (waiting : List ℕ) (waits : Option Report) → Waits source waiting waits → EndsAt waits file_names x.front.ticks notes_mid notes_now ending → AtTheEnd waiting
    end_is [] waits w e = record {
      status = SUCCESS;
      refusal = None;
      is = refl;
      ends = subst (λ (o : Option Report). EndsAt o file_names x.front.ticks notes_mid notes_now ending) w e;
    }
    end_is (b ∷ bs) waits w e =
        let why : Report = report.Syntax 1 w.0 End in
        record {
          status = SYNTAX_REFUSED;
          refusal = Some why;
          is = ap (at_end (b ∷ bs)) w.1;
          ends =
              ends_whole (behind_front source x.front SYNTAX_REFUSED (Some why)) (note_of file_names why) notes_mid notes_now ending (some_bytes file_names why)
              (subst (λ (o : Option Report). EndsAt o file_names x.front.ticks notes_mid notes_now ending) w.2 e);
        }

    nothing_left : NothingLeft x.front left mid now notes_mid notes_now old.waits ending → HeardFrom source s input left first now notes_first notes_now ending
    nothing_left n =
        let e : AtTheEnd x.front.session.waiting = end_is x.front.session.waiting old.waits x.behind.waits n.ends in
        heard_so (behind_front source x.front e.status e.refusal) (heard_to_the_end source s input x.front e.status e.refusal x.stands (no_line_ends source x.front e.status e.refusal n.none e.is))
        (n.rest ∙ sym (left_at_the_end source s input [] x.front x.stands (no_line_leaves source x.front n.none))) refl refl n.still n.counts e.ends

    line_too_long : NextTooLong x.front left mid now notes_mid notes_now ending → HeardFrom source s input left first now notes_first notes_now ending
    line_too_long n =
        heard_so (behind_front source x.front SYNTAX_REFUSED (Some too_long)) (heard_to_the_end source s input x.front SYNTAX_REFUSED (Some too_long) x.stands (long_line_ends source x.front left n.long))
        (sym (left_at_the_end source s input left x.front x.stands (long_line_leaves source x.front left n.long))) refl refl n.still n.counts
        (ends_whole (behind_front source x.front SYNTAX_REFUSED (Some too_long)) too_long_note notes_mid notes_now ending (omega arith) n.ends)

    input_fails : InputFails x.front left mid now notes_mid notes_now ending → CutBetween source s input left first now notes_first notes_now ending
    input_fails n = record {
      front = x.front;
      stands = x.stands;
      rest = n.rest;
      output = grows_still first.output.taken mid.output.taken now.output.taken x.front.output x.output (ap (λ o. o.taken) n.still);
      cut = inl (record { between = notes_mid; noted = x.noted; ends = n.ends; counts = count_then first mid now _ _ x.counts n.counts });
    }

    no_memory_for_line : NoMemoryForLine x.front left mid now notes_mid notes_now ending → CutBetween source s input left first now notes_first notes_now ending
    no_memory_for_line n = record {
      front = x.front;
      stands = x.stands;
      rest = n.rest;
      output = grows_still first.output.taken mid.output.taken now.output.taken x.front.output x.output (ap (λ o. o.taken) n.still);
      cut = inr (record { between = notes_mid; noted = x.noted; ends = n.ends; counts = stand_then first mid now x.counts n.counts });
    }

    by_next : EndsAtNext x.front old.waits left mid now notes_mid notes_now ending → EndsFrom source s input left first now notes_first notes_now ending
    by_next (inl n) = inl (nothing_left n)
    by_next (inr (inl n)) = inl (line_too_long n)
    by_next (inr (inr (inl n))) = inr (inl (input_fails n))
    by_next (inr (inr (inr n))) = inr (inl (no_memory_for_line n))

    ends_from : NextTaken source x.front left mid now notes_mid notes_now new (Some ending) ⊎ EndsAtNext x.front old.waits left mid now notes_mid notes_now ending → EndsFrom source s input left first now notes_first notes_now ending
    ends_from (inl t) = by_taken t
    ends_from (inr n) = by_next n

-- On channels.
module _ (first old new : Hearing) (initial mid now : ChannelsTold) (notes_first notes_mid notes_now : NotesTold) (h : OnChannels initial mid (λ before after. InsideOn first initial mid notes_first notes_mid old)) where
  pub inside_then : OnChannels mid now (λ before after. NextOn old new notes_mid notes_now mid now None) → OnChannels initial now (λ before after. InsideOn first initial now notes_first notes_now new)
  inside_then next =
      reads_then initial.input mid.input now.input (InsideOn first initial mid notes_first notes_mid old) (NextOn old new notes_mid notes_now mid now None) (InsideOn first initial now notes_first notes_now new) h next
      (λ input mid_left left p q source s are behind.
      inside_more source s input mid_left left (devices_of initial) (devices_of mid) (devices_of now) notes_first notes_mid notes_now old new (p source s are behind) (λ x. q source x.front are x.behind (sym x.rest)))

  pub ends_then : (ending : Heard) → OnChannels mid now (λ before after. NextOn old new notes_mid notes_now mid now (Some ending)) → OnChannels initial now (λ before after. EndsOn first initial now notes_first notes_now ending)
  ends_then ending next =
      reads_then initial.input mid.input now.input (InsideOn first initial mid notes_first notes_mid old) (NextOn old new notes_mid notes_now mid now (Some ending)) (EndsOn first initial now notes_first notes_now ending) h next
      (λ input mid_left left p q source s are behind.
      let x : IsInside source s input mid_left (devices_of initial) (devices_of mid) notes_first notes_mid old = p source s are behind in
      ends_from source s input mid_left left (devices_of initial) (devices_of mid) (devices_of now) notes_first notes_mid notes_now old new ending x (q source x.front are x.behind (sym x.rest)))

-- there is a session before the first line, behind which the code's stands
abbrev pub IsThere : Hearing → Type 0
IsThere hearing = (source : List ℕ → Source) × (s : Session) × AreSources source × IsBehind source (front_of s []) hearing

-- one of the sessions of which all this is said
module _ (first hearing : Hearing) (initial now : ChannelsTold) (notes_first notes_now : NotesTold) (h : OnChannels initial now (λ before after. InsideOn first initial now notes_first notes_now hearing)) (r : IsThere first) where
  one_inside : IsInside r.0 r.1 ((initial.input.kept ++ h.given) ++ []) (now.input.kept ++ []) (devices_of initial) (devices_of now) notes_first notes_now hearing
  one_inside = h.comes [] (λ e. refl) r.0 r.1 r.2 (record { stands = r.3.stands; names = r.3.names; waits = r.3.waits; ticks = r.3.ticks })

  -- there is a session behind which the next line stands
  pub stands_there : (source : List ℕ → Source) × (f : Front) × AreSources source × IsBehind source f hearing
  stands_there = (r.0, one_inside.front, r.2, one_inside.behind)

  pub open_there : has_ended hearing.session ≡ false
  open_there = one_inside.is_open

-- memory is wanted behind the last line that is counted
pub memory_then :
    (first old : Hearing) (initial mid : ChannelsTold) (notes_first notes_mid notes_now : NotesTold) (ending : Heard) → OnChannels initial mid (λ before after. InsideOn first initial mid notes_first notes_mid old) →
    EndsTold memory_note (bare NO_MEMORY old.ticks) notes_mid notes_now ending → OnChannels initial mid (λ before after. EndsOn first initial mid notes_first notes_now ending)
memory_then first old initial mid notes_first notes_mid notes_now ending h e =
    reads_so initial.input mid.input (InsideOn first initial mid notes_first notes_mid old) (EndsOn first initial mid notes_first notes_now ending) h
    (λ input left p source s are behind.
    let x : IsInside source s input left (devices_of initial) (devices_of mid) notes_first notes_mid old = p source s are behind in
    inr (inl (record {
      front = x.front;
      stands = x.stands;
      rest = x.rest;
      output = x.output;
      cut = inr (record { between = notes_mid; noted = x.noted; ends = subst (λ (n : ℕ). EndsTold memory_note (bare NO_MEMORY n) notes_mid notes_now ending) x.behind.ticks e; counts = x.counts });
    })))

-- From the first line on.

between_is : (s : Session) (code : SessionSeen) (between : Option _) → code.between ≡ between → HasBetween s between → has_ended code ≡ false
between_is s code None is h = absurd h
between_is s code (Some b) is h = rw is refl

pub is_open : (s : Session) (code : SessionSeen) → Stands s code → has_ended code ≡ false
is_open s code stands = between_is s code code.between refl stands.between

-- the code's session before the first line
pub begins_behind : (source : List ℕ → Source) (s : Session) (input : List ℕ) (code : SessionSeen) (names : List (List ℕ)) → Stands s code → s.waiting ≡ [] → names ≡ file_names → IsBehind source (front_of s input) (record { session = code; names = names; waits = None; ticks = 0 })
begins_behind source s input code names stands none is = record { stands = stands; names = is; waits = subst (λ (text : List ℕ). Waits source text None) (sym none) refl; ticks = refl }

pub begins_there : (code : SessionSeen) (names : List (List ℕ)) → EverySource → IsFirstSession code → names ≡ file_names → IsThere (record { session = code; names = names; waits = None; ticks = 0 })
begins_there code names every begun is =
    let source : List ℕ → Source = λ text. (every 1 text).0 in
    (source, begun.session, (λ text. (every 1 text).1), begins_behind source begun.session [] code names begun.stands (first_waits_never begun.source begun.session begun.is) is)

module _ (prelude : Source) (source : List ℕ → Source) (input left : List ℕ) (before now : DevicesTold) (notes_before notes_now : NotesTold) (ending : Heard) where
  whole_so :
      (h : HeardOf) (between : NotesTold) → listened prelude source input ≡ h → left ≡ left_from source input (session_of prelude) → Grows before.output.taken now.output.taken h.output → DevicesStand before now → AreNoted (notes_for h.told) notes_before between →
      EndsWhole h (last_note h.refusal) between notes_now ending → HeardWhole prelude source input left before now notes_before notes_now ending
  whole_so h between is rest output counts told ends = record {
    rest = rest;
    output = subst (λ (y : HeardOf). Grows before.output.taken now.output.taken y.output) (sym is) output;
    counts = counts;
    between = between;
    told = subst (λ (y : HeardOf). AreNoted (notes_for y.told) notes_before between) (sym is) told;
    ends = subst (λ (y : HeardOf). EndsWhole y (last_note y.refusal) between notes_now ending) (sym is) ends;
  }

  by_session : (s : Session) → session_of prelude ≡ Ok s → EndsFrom source s input left before now notes_before notes_now ending → ListensBy prelude source input left before now notes_before notes_now ending
  by_session s is (inl h) =
      inl (whole_so (heard source (suc (length input)) s input) h.between (ap (heard_from source input) is) (h.rest ∙ ap (left_from source input) (sym is)) h.output h.counts h.told h.ends)
  by_session s is (inr cut) = inr (inr (record { session = s; is = is; cut = cut }))

pub listens_from :
    (hearing : Hearing) (code : SessionSeen) (names : List (List ℕ)) (before now : ChannelsTold) (notes_before notes_now : NotesTold) (ending : Heard) → EverySource → (begun : IsFirstSession code) → names ≡ file_names → hearing ≡ record { session = code; names = names; waits = None; ticks = 0 } →
    OnChannels before now (λ b a. EndsOn hearing before now notes_before notes_now ending) → Listens before now notes_before notes_now ending
listens_from hearing code names before now notes_before notes_now ending every begun is begins h =
    let source : List ℕ → Source = λ text. (every 1 text).0 in
    let are : AreSources source = λ text. (every 1 text).1 in
    reads_so before.input now.input (EndsOn hearing before now notes_before notes_now ending) (λ input left. ListensOn input left (devices_of before) (devices_of now) notes_before notes_now ending) h
    (λ input left e.
    record {
      prelude = begun.source;
      source = source;
      is_read = begun.is_read;
      are_read = are;
      ends = by_session begun.source source input left (devices_of before) (devices_of now) notes_before notes_now ending begun.session begun.is
          (e source begun.session are
          (subst (λ (x : Hearing). IsBehind source (front_of begun.session input) x) (sym begins) (begins_behind source begun.session input code names begun.stands (first_waits_never begun.source begun.session begun.is) is)));
    })

-- There is no session.

prelude_refused :
    (still : ChannelsTold) (notes_before notes_now : NotesTold) (ending : Heard) (names : List (List ℕ)) (why : Report) → EverySource → IsPreludeRefusal why → names ≡ file_names → EndsToldIfMemory (note_of names why) (refused (status_of why) 0 why) notes_before notes_now ending →
    Listens still still notes_before notes_now ending
prelude_refused still notes_before notes_now ending names why every r is e =
    let source : List ℕ → Source = λ text. (every 1 text).0 in
    let told : EndsToldIfMemory (note_of file_names why) (refused (status_of why) 0 why) notes_before notes_now ending = subst (λ (ns : List (List ℕ)). EndsToldIfMemory (note_of ns why) (refused (status_of why) 0 why) notes_before notes_now ending) is e in
    let h : HeardOf = ended_with (status_of why) (Some why) in
    let last : EndsWhole h (last_note (Some why)) notes_before notes_now ending =
    subst (λ (note : List ℕ). EndsWhole h note notes_before notes_now ending) (sym (prelude_note r.source why r.refuses)) (ends_whole h (note_of file_names why) notes_before notes_now ending (some_bytes file_names why) told)
    in
    unread still.input (λ input left. ListensOn input left (devices_of still) (devices_of still) notes_before notes_now ending)
    (λ input.
    record {
      prelude = r.source;
      source = source;
      is_read = r.is_read;
      are_read = λ text. (every 1 text).1;
      ends =
          inl (whole_so r.source source input input (devices_of still) (devices_of still) notes_before notes_now ending h notes_before (ap (heard_from source input) (is_refused r.source why r.refuses)) (ap (left_from source input) (sym (is_refused r.source why r.refuses)))
          (grows_none still.output.taken) (stand_still (devices_of still)) (none_noted notes_before) last);
    })

pub no_session : (still : ChannelsTold) (notes_before notes_now : NotesTold) (ending : Heard) → EverySource → EndsTold memory_note (bare NO_MEMORY 0) notes_before notes_now ending → Listens still still notes_before notes_now ending
no_session still notes_before notes_now ending every e =
    unread still.input (λ input left. ListensOn input left (devices_of still) (devices_of still) notes_before notes_now ending)
    (λ input.
    record { prelude = (every 0 prelude_text).0; source = λ text. (every 1 text).0; is_read = (every 0 prelude_text).1; are_read = λ text. (every 1 text).1; ends = inr (inl (record { rest = refl; still = refl; ends = e })) })

pub not_begun :
    (still : ChannelsTold) (notes_before notes_now : NotesTold) (ending : Heard) (names : List (List ℕ)) (why : SessionFault) → EverySource → StartsSession (Err why) → names ≡ file_names → EndsUnbegun why names notes_before notes_now ending → Listens still still notes_before notes_now ending
not_begun still notes_before notes_now ending names (unbegun.Prelude why) every r is e = prelude_refused still notes_before notes_now ending names why every r is e
not_begun still notes_before notes_now ending names unbegun.Memory every r is e = no_session still notes_before notes_now ending every e
