use Rattle.std.proofs.Common.{◌≡◌, ◌≤◌, ◌++◌, ◌∷◌, [], List, ℕ, Bool, nat_lt, length, take, drop, string_bytes, arith, subst, sym, ap, ◌∙◌, refl, Err}
use Rattle.std.specs.Str.{chars}
use Rattle.std.specs.Char.{len_utf8}
use Rattle.std.proofs.lemmas.List.{length_push, take_all}
use Rattle.std.proofs.lemmas.Iterator.{YieldsList-from_chars}
use Rattle.std.proofs.lemmas.Iterator.Consumers.{YieldsList-turn, YieldsList-end}
use Rattle.fac_token.specs.declared.spotting.Here.{Here}
use Rattle.fac_token.specs.declared.spotting.Spot.{Spot}
use Rattle.fac_token.specs.Spots.{HasSpots}
use Rattle.fac_token.specs.inner.TokenSteps.{held, hold_from}
use Rattle.fac_token.specs.inner.SpotSteps.{here_behind, passed, mode_open, finished, started}
use Rattle.fac_token.proofs.StepLemmas.{size, whole, begins, faulty, goes_on, ends}
use Rattle.fac_token.proofs.SpotLemmas.{Followed, at_first, step_followed, end_followed, one_more_char, passed_on, passed_at}
use Rattle.fac_token.proofs.spotting.read_spots.Goals as goal

pub loop-c-init : goal.loop-c-init
loop-c-init c = record {
  followed = at_first c.new-tokens.result (string_bytes c.new-text.result) c.new-spots.result _ c.new-tokens.ensures c.new-text.ensures.bytes c.new-spots.ensures;
  here = refl;
  so_far = begins 0 c.args.source.now _ _ c.new-tokens.ensures c.new-text.ensures.bytes;
}

pub returns-in-Err : goal.returns-in-Err
returns-in-Err c =
    let t = YieldsList-turn (YieldsList-from_chars c.args.source.now c.utf8.source cc) c.loop-c.yielded _ c.loop-c.yielded_by _ _ c.in-Some.c c.in-Some.is c.next.ensures.steps in
    faulty 0 c.loop-c.here.at (length c.loop-c.yielded) c.in-Some.c c.args.source.now _ c.take_char.new.tokens (string_bytes c.take_char.new.text) c.in-Err.fault c.utf8.source t c.loop-c.invariant.so_far c.in-Err.ensures

pub loop-c-preserved : goal.loop-c-preserved
loop-c-preserved c =
    let t = YieldsList-turn (YieldsList-from_chars c.args.source.now c.utf8.source cc) c.loop-c.yielded _ c.loop-c.yielded_by _ _ c.in-Some.c c.in-Some.is c.next.ensures.steps in
    let n = length_push c.loop-c.yielded c.in-Some.c in
    let cs : List ℕ = chars c.args.source.now in
    let k : ℕ = length c.loop-c.yielded in
    let j : ℕ = length (c.loop-c.yielded ++ c.in-Some.c ∷ []) in
    let before : List ℕ = take k cs in
    let on : before ++ c.in-Some.c ∷ [] ≡ take j cs = one_more_char cs k j c.in-Some.c t n in
    let at_is : c.loop-c.here.at ≡ size before = ap (λ (h : Here). h.at) c.loop-c.invariant.here in
    let tokens_now = c.take_char.new.tokens in
    let text_now : List ℕ = string_bytes c.take_char.new.text in
    let was_open : Bool = mode_open c.loop-c.mode in
    let stays_open : Bool = mode_open c.in-Ok.next in
    let step = step_followed before c.loop-c.tokens (string_bytes c.loop-c.text) c.loop-c.mode c.loop-c.spots c.loop-c.start c.loop-c.invariant.followed c.in-Some.c tokens_now text_now c.in-Ok.next c.loop-c.here.at at_is c.in-Ok.ensures in
    let spots_are : c.finish.new.spots ≡ finished c.loop-c.spots c.loop-c.start (nat_lt (length c.loop-c.tokens) (length tokens_now)) c.loop-c.here.at =
    subst (λ (m : ℕ). c.finish.new.spots ≡ finished c.loop-c.spots c.loop-c.start (nat_lt m (length tokens_now)) c.loop-c.here.at) c.len-before.ensures
    (subst (λ (m : ℕ). c.finish.new.spots ≡ finished c.loop-c.spots c.loop-c.start (nat_lt c.len-before.result m) c.loop-c.here.at) c.len.ensures c.in_ok-finish-in-Ok.ensures) in
    let start_is : c.start_of-start.result ≡ started c.loop-c.start (here_behind before) was_open stays_open =
    subst (λ (h : Here). c.start_of-start.result ≡ started c.loop-c.start h was_open stays_open) c.loop-c.invariant.here
    (subst (λ (b : Bool). c.start_of-start.result ≡ started c.loop-c.start c.loop-c.here b stays_open) c.is_open.ensures
    (subst (λ (b : Bool). c.start_of-start.result ≡ started c.loop-c.start c.loop-c.here c.is_open.result b) c.is_open-in-Ok.ensures c.start_of-start.ensures)) in
    let with_spots = subst (λ (ss : List Spot). Followed (before ++ c.in-Some.c ∷ []) tokens_now text_now c.in-Ok.next ss (started c.loop-c.start (here_behind before) was_open stays_open)) (sym spots_are) step in
    let with_start = subst (λ (h : Here). Followed (before ++ c.in-Some.c ∷ []) tokens_now text_now c.in-Ok.next c.finish.new.spots h) (sym start_is) with_spots in
    let here_is : c.in_ok-here.here ≡ passed c.loop-c.here c.in-Some.c = c.in_ok-here.ensures in
    record {
      followed = subst (λ (ds : List ℕ). Followed ds tokens_now text_now c.in-Ok.next c.finish.new.spots c.start_of-start.result) on with_start;
      here = here_is ∙ (ap (λ (h : Here). passed h c.in-Some.c) c.loop-c.invariant.here ∙ (passed_on before c.in-Some.c ∙ ap here_behind on));
      so_far =
          subst (λ (m : ℕ). hold_from 0 m (held tokens_now text_now c.in-Ok.next) (drop j cs) ≡ whole 0 c.args.source.now) (sym (ap (λ (h : Here). h.at) here_is ∙ passed_at c.loop-c.here c.in-Some.c))
          (goes_on 0 c.loop-c.here.at k j c.in-Some.c (len_utf8 c.in-Some.c) c.args.source.now _ _ _ c.in-Ok.next t refl n c.loop-c.invariant.so_far c.in-Ok.ensures);
    }

pub returns-in_ok-finish-in-Ok-take_end : goal.returns-in_ok-finish-in-Ok-take_end
returns-in_ok-finish-in-Ok-take_end c =
    let t = YieldsList-end (YieldsList-from_chars c.args.source.now c.utf8.source cc) c.loop-c.yielded _ c.loop-c.yielded_by _ _ c.in-None.is c.next.ensures.steps in
    let cs : List ℕ = chars c.args.source.now in
    let over : length cs ≤ length c.loop-c.yielded = omega (arith, t.1) in
    let whole_text : take (length c.loop-c.yielded) cs ≡ cs = take_all (length c.loop-c.yielded) cs over in
    let all = c.in-Ok-take_end.all in
    let f : Followed cs c.loop-c.tokens (string_bytes c.loop-c.text) c.loop-c.mode c.loop-c.spots c.loop-c.start = subst (λ (ds : List ℕ). Followed ds c.loop-c.tokens (string_bytes c.loop-c.text) c.loop-c.mode c.loop-c.spots c.loop-c.start) whole_text c.loop-c.invariant.followed in
    let at_is : c.loop-c.here.at ≡ size cs = ap (λ (h : Here). h.at) c.loop-c.invariant.here ∙ ap size whole_text in
    let last = end_followed c.args.source.now c.utf8.source c.loop-c.tokens (string_bytes c.loop-c.text) c.loop-c.mode c.loop-c.spots c.loop-c.start f c.loop-c.here.at at_is all c.in-Ok-take_end.ensures in
    let spots_are : c.finish-in-Ok-take_end.new.spots ≡ finished c.loop-c.spots c.loop-c.start (nat_lt (length c.loop-c.tokens) (length all)) c.loop-c.here.at =
    subst (λ (m : ℕ). c.finish-in-Ok-take_end.new.spots ≡ finished c.loop-c.spots c.loop-c.start (nat_lt m (length all)) c.loop-c.here.at) c.len-before-2.ensures
    (subst (λ (m : ℕ). c.finish-in-Ok-take_end.new.spots ≡ finished c.loop-c.spots c.loop-c.start (nat_lt c.len-before-2.result m) c.loop-c.here.at) c.len-in-Ok-take_end.ensures c.in_ok-finish-in-Ok-take_end.ensures) in
    subst (λ (ss : List Spot). HasSpots c.args.source.now ss) (sym spots_are) last

pub returns-in-Err-take_end : goal.returns-in-Err-take_end
returns-in-Err-take_end c =
    let t = YieldsList-end (YieldsList-from_chars c.args.source.now c.utf8.source cc) c.loop-c.yielded _ c.loop-c.yielded_by _ _ c.in-None.is c.next.ensures.steps in
    let over : length (chars c.args.source.now) ≤ length c.loop-c.yielded = omega (arith, t.1) in
    ends 0 c.loop-c.here.at (length c.loop-c.yielded) c.args.source.now _ (Err c.in-Err-take_end.fault) c.utf8.source over c.loop-c.invariant.so_far c.in-Err-take_end.ensures
