-- How the walk of a phrase goes on behind an item.
use Rattle.std.specs.Prelude.{slice_get}
use Rattle.std.proofs.Common.{◌≡◌, ◌<◌, ◌≤◌, ℕ, zero, suc, List, [], ◌∷◌, ◌++◌, length, Bool, false, Option, refl, sym, ap, subst, ◌∙◌, arith}
use Rattle.fac_base.specs.declared.place.Place.{Place}
use Rattle.fac_lang.specs.declared.phrase.Template.{Template}
use Rattle.fac_lang.specs.declared.phrase.Item.{Item as PlacedItem}
use Rattle.fac_lang.specs.declared.phrase.What.{What}
use Rattle.fac_lang.specs.declared.phrase.What.TheVariants.{Bind as w_bind}
use Rattle.fac_lang.specs.declared.program.Program.{Program}
use Rattle.fac_lang.specs.Phrases.{Literal, Phrase, end, then, Item, bind, known, Mark}
use Rattle.fac_lang.specs.PhraseView.{what_item, items_phrase}
use Rattle.fac_locals.specs.Literals.{behind}
use Rattle.fac_lang.specs.Substitution.{put_local}
use Rattle.fac_locals.specs.Frames.{IsPut, Opens, OpensItem, o_plain, o_end, o_item, o_bind}
use Rattle.fac_abs.specs.RowVariables.{Row}
use Rattle.fac_abs.specs.Marks.{AbstractStack, dead, on}
use Rattle.fac_abs.specs.MarkTrees.{Naming}
use Rattle.fac_abs.specs.SeenMarks.{MarksSeen, Grows, IsFrame, IsStack, frame_of, stack_of, base_seen}
use Rattle.fac_abs.specs.MarkPromises.{IsFrameOf}
use Rattle.fac_check.specs.Flow.{Walked as WalkedPhrase, found, refused, and_then, counted, walk_on, doing}
use Rattle.fac_check.specs.inner.Alone.{StandsAt}
use Rattle.fac_check.specs.inner.ItemWalk.{NamesNone, item_walk}
use Rattle.fac_check.specs.inner.Walking.{Opened, walked_seen, go_at, items_of, frame_behind, IsBelow, IsItemsWalk, IsWalkOfOne, IsWalkOfDoing, DoesItem, binds, only_walk}
use Rattle.fac_abs.specs.declared.rule.Rule.{Rule}
use Rattle.fac_check.specs.declared.subject.Subject.{Subject}
use Rattle.fac_check.specs.declared.walker.Step.{Step}
use Rattle.fac_check.proofs.OpenedItems.{items_more}
use Rattle.fac_abs.specs.declared.reached.Reached.TheVariants.{Dead, On}
use Rattle.fac_check.specs.declared.doing.Transfer.{Transfer}
use Rattle.fac_check.specs.declared.walker.Walked.{Walked}
use Rattle.fac_check.specs.declared.walker.Walked.TheVariants.{Found, Refused}
use Rattle.fac_check.proofs.StepByStep.{rest, walk_on_rest}
use Rattle.fac_check.proofs.ExecutedItems.{names_none}
use Rattle.fac_check.proofs.StandingItems.{stands_behind}

module _ {C : Program} {templates : List Template} {own : Option ℕ} {inner : ℕ} (O : Opened C templates own inner) where
  -- The walk of a phrase from the start is the walk from here, of what these items open to under this frame.
  pub record Onward (alone : Bool) (start : Literal) (t : Phrase) (f nested : ℕ) (e : Option Row) (ms : List Mark) (most : ℕ) (M : MarksSeen) (b : Option ℕ) (s g : ℕ) (items : List PlacedItem) (n : ℕ) : Type 0 where
    pub at : Literal
    pub here : Literal
    pub stands : StandsAt O.program inner O.first alone at here
    pub phrase : Phrase
    pub steps : ℕ
    pub opens : Opens O.program templates (items_of (frame_of O.naming M g)) at (items_phrase items) phrase
    pub enough : n < steps
    pub same : go_at O f start nested t e ms most ≡ go_at O steps here nested phrase (base_seen O.naming b) (stack_of O.naming M s) n

  -- what a closed phrase opens to that begins with this item
  pub data OpensFirst (frame : List Item) (at : Literal) (j : Item) (p : Place) (c : Phrase) : Phrase → Type 0 where
    first_item : (i : Item) (u : Phrase) → OpensItem O.program templates frame at j i → Opens O.program templates frame (behind at i) c u → OpensFirst frame at j p c (then i p u)
    first_bind : (x : ℕ) (u : Phrase) → j ≡ bind (length frame) → ((v : Item) → IsPut v → Opens O.program templates (frame ++ v ∷ []) (behind at (bind x)) c (put_local x v u)) → OpensFirst frame at j p c (then (bind x) p u)

  opens_first : (frame : List Item) (at : Literal) (j : Item) (p : Place) (c t : Phrase) → Opens O.program templates frame at (then j p c) t → OpensFirst frame at j p c t
  opens_first frame at j p c t (o_item h r) = first_item _ _ h r
  opens_first frame at j p c t (o_bind r) = first_bind _ _ refl r

  -- the walk from an item on, by what the item itself comes to
  pub behind_item :
      (here : Literal) (i : Item) (p : Place) (t : Phrase) (f nested n : ℕ) (b : Option Row) (ms : List Mark) (N : Naming) (K : MarksSeen) (W : Walked) →
      NamesNone (doing O.program O.word here i b ms) →
      walked_seen N K W ≡ walk_on O.effect (go_at O f) (doing O.program O.word here i b ms) p nested (behind here i) end n →
      go_at O (suc f) here nested (then i p t) b ms n ≡ and_then (walked_seen N K W) (rest O.effect (go_at O f) nested (behind here i) t)
  behind_item here i p t f nested n b ms N K W none walks =
      walk_on_rest O.effect (go_at O f) nested (behind here i) (λ c ns j. refl) t (doing O.program O.word here i b ms) p n none
      ∙ ap (λ x. and_then x (rest O.effect (go_at O f) nested (behind here i) t)) (sym walks)

  counted_bind : (p : Place) (n : ℕ) (go : ℕ → WalkedPhrase AbstractStack) (b : Option Row) (ms : List Mark) (then_go : AbstractStack → ℕ → WalkedPhrase AbstractStack) → ((k : ℕ) → go k ≡ then_go (on b ms) k) → counted p n go ≡ and_then (counted p n (λ k. found (on b ms) k)) then_go
  counted_bind p zero go b ms then_go same = refl
  counted_bind p (suc n) go b ms then_go same = same n

  -- likewise from one that binds a local: its top mark is put for the local in the rest
  pub behind_bind :
      (at : Literal) (x : ℕ) (p : Place) (t : Phrase) (f nested n : ℕ) (b : Option Row) (m : Mark) (ms : List Mark) (N : Naming) (K : MarksSeen) (W : Walked) →
      walked_seen N K W ≡ item_walk O.effect (go_at O f) (doing O.program O.word at (bind x) b (m ∷ ms)) p nested n →
      go_at O (suc f) at nested (then (bind x) p t) b (m ∷ ms) n ≡ and_then (walked_seen N K W) (rest O.effect (go_at O f) nested (behind at (bind x)) (put_local x (known m) t))
  behind_bind at x p t f nested n b m ms N K W walks =
      counted_bind p n (λ k. go_at O f (behind at (bind x)) nested (put_local x (known m) t) b ms k) b ms (rest O.effect (go_at O f) nested (behind at (bind x)) (put_local x (known m) t)) (λ k. refl)
      ∙ ap (λ y. and_then y (rest O.effect (go_at O f) nested (behind at (bind x)) (put_local x (known m) t))) (sym walks)

  -- and where nothing is there to bind
  pub behind_none :
      (at : Literal) (x : ℕ) (p : Place) (t : Phrase) (f nested n : ℕ) (b : Option Row) (N : Naming) (K : MarksSeen) (W : Walked) (go : AbstractStack → ℕ → WalkedPhrase AbstractStack) →
      walked_seen N K W ≡ item_walk O.effect (go_at O f) (doing O.program O.word at (bind x) b []) p nested n →
      go_at O (suc f) at nested (then (bind x) p t) b [] n ≡ and_then (walked_seen N K W) go
  behind_none at x p t f nested n b N K W go walks = ap (λ y. and_then y go) (sym walks)

  module _ (alone : Bool) (start : Literal) (t : Phrase) (f nested : ℕ) where
    -- at the start
    pub onward_start : (at : Literal) (most : ℕ) (M : MarksSeen) (b : Option ℕ) (s g : ℕ) (items : List PlacedItem) → StandsAt O.program inner O.first alone at start → Opens O.program templates (items_of (frame_of O.naming M g)) at (items_phrase items) t → most < f → Onward alone start t f nested (base_seen O.naming b) (stack_of O.naming M s) most M b s g items most
    onward_start at most M b s g items stands opens enough = record { at = at; here = start; stands = stands; phrase = t; steps = f; opens = opens; enough = enough; same = refl }

    -- The walk behind an item whose walk came to this, where the frame behind it is this one.
    abbrev pub Behind : (e : Option Row) (ms : List Mark) (most : ℕ) (K : MarksSeen) (g : ℕ) (items : List PlacedItem) → Walked → Type 0
    Behind e ms most K g items (Found Dead n) = go_at O f start nested t e ms most ≡ found dead n
    Behind e ms most K g items (Found (On b s) n) = Onward alone start t f nested e ms most K b s g items n
    Behind e ms most K g items (Refused b) = go_at O f start nested t e ms most ≡ refused b.rule b.place

    -- at the end
    pub onward_end : (e : Option Row) (ms : List Mark) (most : ℕ) (M : MarksSeen) (b : Option ℕ) (s g n : ℕ) → Onward alone start t f nested e ms most M b s g [] n → found (on (base_seen O.naming b) (stack_of O.naming M s)) n ≡ go_at O f start nested t e ms most
    onward_end e ms most M b s g n o = sym (o.same ∙ ended o.steps (items_of (frame_of O.naming M g)) o.at o.here o.phrase o.opens)
      where
        ended : (k : ℕ) (frame : List Item) (at here : Literal) (u : Phrase) → Opens O.program templates frame at end u → go_at O k here nested u (base_seen O.naming b) (stack_of O.naming M s) n ≡ found (on (base_seen O.naming b) (stack_of O.naming M s)) n
        ended k frame at here u o_end = refl

-- What the walk of one item says of the walk of the phrase that begins with it.
module _ (subject : Subject) (O : Opened subject.closed.now.program subject.closed.now.templates subject.own subject.inner) where
  abbrev N : Naming
  N = O.naming

  abbrev frame_at : MarksSeen → ℕ → List Item
  frame_at M g = items_of (frame_of N M g)

  -- an item that binds no local
  items_walk :
      (M L : MarksSeen) (c : Item) (s : Step) (W : Walked) (at here : Literal) (i : Item) (f : ℕ) → IsWalkOfOne subject M L c s W → StandsAt O.program subject.inner O.first s.alone at here → OpensItem O.program subject.closed.now.templates (frame_at M s.frame) at c i → s.left ≤ f → IsItemsWalk O M L here i s f W
  items_walk M L (bind k) s W at here i f w stands (o_plain j p) l = absurd p
  items_walk M L c s W at here i f w stands h l = w O at here i f stands h l

  frame_stays : (M : MarksSeen) (c : Item) (g : ℕ) (at : Literal) (i : Item) (ms : List Mark) → OpensItem O.program subject.closed.now.templates (frame_at M g) at c i → frame_behind c ms (frame_of N M g) ≡ frame_of N M g
  frame_stays M (bind k) g at i ms (o_plain j p) = absurd p
  frame_stays M c g at i ms h = refl

  module _ (alone : Bool) (start : Literal) (t : Phrase) (f nested : ℕ) (e : Option Row) (ms : List Mark) (most : ℕ) (L K : MarksSeen) (b : Option ℕ) (s g g' n : ℕ) (i : PlacedItem) (items : List PlacedItem) (W : Walked) where
    abbrev step : Step
    step = record { place = i.place; nested = nested; base = b; stack = s; frame = g; left = n; alone = alone }

    abbrev Goes : Walked → Type 0
    Goes = Behind O alone start t f nested e ms most K g' items

    goes_on : (V : Walked) (k : ℕ) (at here : Literal) (u : Phrase) → n < suc k → IsBelow n V → StandsAt O.program subject.inner O.first alone at here → Opens O.program subject.closed.now.templates (frame_at K g') at (items_phrase items) u → go_at O f start nested t e ms most ≡ and_then (walked_seen N K V) (rest O.effect (go_at O k) nested here u) → Goes V
    goes_on (Found Dead r) k at here u l low stands opens same = same
    goes_on (Found (On c q) r) k at here u l low stands opens same = record { at = at; here = here; stands = stands; phrase = u; steps = k; opens = opens; enough = omega (arith, low, l); same = same }
    goes_on (Refused b) k at here u l low stands opens same = same

    refuses : (V : Walked) (r : Rule) (q : Place) → walked_seen N K V ≡ refused r q → go_at O f start nested t e ms most ≡ refused r q → Goes V
    refuses (Found A k) r q same here = absurd (cc)
    refuses (Refused b) r q same here = here ∙ sym same

    module _ (walks : IsWalkOfOne subject L K (what_item i.what) step W) (below : IsBelow n W) (behind_is : frame_of N K g' ≡ frame_behind (what_item i.what) (stack_of N L s) (frame_of N L g)) where
      first_goes : (k : ℕ) (at here : Literal) (u : Phrase) → n < suc k → StandsAt O.program subject.inner O.first alone at here → OpensFirst O (frame_at L g) at (what_item i.what) i.place (items_phrase items) u → go_at O f start nested t e ms most ≡ go_at O (suc k) here nested u (base_seen N b) (stack_of N L s) n → Goes W
      first_goes k at here u l stands (first_item j v h r) same =
          let walked = items_walk L K (what_item i.what) step W at here j k walks stands h (omega (arith, l)) in
          let frames : frame_at K g' ≡ frame_at L g = ap items_of (behind_is ∙ frame_stays L (what_item i.what) g at j (stack_of N L s) h) in
          goes_on W k (behind at j) (behind here j) v l below (stands_behind O alone at here j stands) (subst (λ (xs : List Item). Opens O.program subject.closed.now.templates xs (behind at j) (items_phrase items) v) (sym frames) r) (same ∙ behind_item O here j i.place v k nested n (base_seen N b) (stack_of N L s) N K W walked.names_none walked.walks)
      first_goes k at here u l stands (first_bind x v is r) same =
          let bound = subst (λ (c : Item). IsWalkOfOne subject L K c step W) is walks in
          let walked = bound O here x k (omega (arith, l)) in
          by_stack (stack_of N L s) walked (behind_is ∙ ap (λ (c : Item). frame_behind c (stack_of N L s) (frame_of N L g)) is) same
        where
          by_stack : (xs : List Mark) → walked_seen N K W ≡ item_walk O.effect (go_at O k) (doing O.program O.word here (bind x) (base_seen N b) xs) i.place nested n → frame_of N K g' ≡ frame_behind (bind (length (frame_at L g))) xs (frame_of N L g) → go_at O f start nested t e ms most ≡ go_at O (suc k) here nested (then (bind x) i.place v) (base_seen N b) xs n → Goes W
          by_stack [] w q same = refuses W _ i.place w same
          by_stack (m ∷ xs) w q same =
              let frames : frame_at K g' ≡ frame_at L g ++ known m ∷ [] = ap items_of q ∙ items_more m (frame_of N L g) in
              goes_on W k (behind at (bind x)) (behind here (bind x)) (put_local x (known m) v) l below (stands_behind O alone at here (bind x) stands) (subst (λ (ys : List Item). Opens O.program subject.closed.now.templates ys (behind at (bind x)) (items_phrase items) (put_local x (known m) v)) (sym frames) (r (known m) tt)) (same ∙ behind_bind O here x i.place v k nested n (base_seen N b) m xs N K W w)

      -- goes on behind an item
      pub onward : Onward O alone start t f nested e ms most L b s g (i ∷ items) n → Goes W
      onward o = by_steps o.steps o.enough o.same
        where
          by_steps : (k : ℕ) → n < k → go_at O f start nested t e ms most ≡ go_at O k o.here nested o.phrase (base_seen N b) (stack_of N L s) n → Goes W
          by_steps zero l same = absurd (omega (arith, l))
          by_steps (suc k) l same = first_goes k o.at o.here o.phrase l o.stands (opens_first O (frame_at L g) o.at (what_item i.what) i.place (items_phrase items) o.phrase o.opens) same

-- from marks that were there before
pub onward_later :
    {C : Program} {templates : List Template} {own : Option ℕ} {inner : ℕ} (O : Opened C templates own inner) (alone : Bool) (start : Literal) (t : Phrase) (f nested : ℕ) (e : Option Row) (ms : List Mark) (most : ℕ) (M L : MarksSeen) (b : Option ℕ) (s g : ℕ) (items : List PlacedItem) (n : ℕ) →
    Grows M L → IsStack M s → IsFrame M g → Onward O alone start t f nested e ms most M b s g items n → Onward O alone start t f nested e ms most L b s g items n
onward_later {C} {templates} O alone start t f nested e ms most M L b s g items n grows stack frame o = record {
  at = o.at;
  here = o.here;
  stands = o.stands;
  phrase = o.phrase;
  steps = o.steps;
  opens = subst (λ (fs : List Mark). Opens O.program templates (items_of fs) o.at (items_phrase items) o.phrase) (sym (grows.same_frame O.naming g frame)) o.opens;
  enough = o.enough;
  same = o.same ∙ ap (λ xs. go_at O o.steps o.here nested o.phrase (base_seen O.naming b) xs n) (sym (grows.same_stack O.naming s stack));
}

-- how the walk of a phrase goes on behind its first item, whose walk came to this
pub behind_from :
    (subject : Subject) (O : Opened subject.closed.now.program subject.closed.now.templates subject.own subject.inner) (alone : Bool) (start : Literal) (t : Phrase) (f nested : ℕ) (e : Option Row) (ms : List Mark) (most : ℕ) (M L K : MarksSeen) (b : Option ℕ) (s g g' n : ℕ)
    (i : PlacedItem) (whole items : List PlacedItem) (W V : Walked) →
    whole ≡ i ∷ items → W ≡ V → Grows M L → Grows L K → IsStack M s → IsFrame M g →
    IsFrameOf L g' (λ N. frame_behind (what_item i.what) (stack_of N M s) (frame_of N M g)) →
    IsWalkOfOne subject L K (what_item i.what) (record { place = i.place; nested = nested; base = b; stack = s; frame = g; left = n; alone = alone }) W → IsBelow n W →
    Onward O alone start t f nested e ms most M b s g whole n → Behind O alone start t f nested e ms most K g' items V
behind_from subject O alone start t f nested e ms most M L K b s g g' n i whole items W V next is grows later stack frame made walks below o =
    let N = O.naming in
    let c = what_item i.what in
    let behind_is : frame_of N K g' ≡ frame_behind c (stack_of N L s) (frame_of N L g) =
    later.same_frame N g' made.valid ∙ made.is N ∙ ap (λ xs. frame_behind c xs (frame_of N M g)) (sym (grows.same_stack N s stack)) ∙ ap (λ fs. frame_behind c (stack_of N L s) fs) (sym (grows.same_frame N g frame)) in
    let here = subst (λ (xs : List PlacedItem). Onward O alone start t f nested e ms most M b s g xs n) next o in
    subst (λ (X : Walked). Behind O alone start t f nested e ms most K g' items X) is
    (onward subject O alone start t f nested e ms most L K b s g g' n i items W walks below behind_is (onward_later O alone start t f nested e ms most M L b s g (i ∷ items) n grows stack frame here))

-- what is no name of a local binds none
pub no_bind : (w : What) → ((x : ℕ) → w ≡ w_bind x → ⊥) → binds (what_item w) ≡ false
no_bind (w_bind x) f = absurd (f x refl)
no_bind _ f = refl

-- the walk of an item that binds no local, by what it does
pub one_walks : (subject : Subject) (M K L : MarksSeen) (c : Item) (s : Step) (D : Transfer) (W : Walked) → binds c ≡ false → DoesItem subject M K s.alone s.base s.stack s.frame c D → IsWalkOfDoing subject K L D s W → IsWalkOfOne subject M L c s W
one_walks subject M K L (bind k) s D W e does walks = absurd (cc)
one_walks subject M K L c s D W e does walks = λ O at here i f stands h l. record {
  names_none = subst NamesNone (does O at here i stands h) (names_none O.naming K (slice_get O.program.words) (base_seen O.naming s.base) D);
  walks = walks O (behind here i) f l ∙ ap (λ d. only_walk O s d (behind here i) f s.left) (does O at here i stands h);
}
