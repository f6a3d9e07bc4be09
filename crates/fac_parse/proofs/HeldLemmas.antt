-- Items are held at the top level or in a row.
use Rattle.std.proofs.Common.{◌≡◌, Bool, false, Option, None, Result, sym, subst}
use Rattle.fac_base.specs.declared.memory.Memory.{Memory}
use Rattle.fac_source.specs.declared.token.Token.{Token}
use Rattle.fac_source.specs.declared.tree.FormKind.{FormKind}
use Rattle.fac_parse.specs.declared.reader.At.{At}
use Rattle.fac_parse.specs.declared.reader.At.TheVariants as at
use Rattle.fac_parse.specs.declared.reader.Head.{Head}
use Rattle.fac_parse.specs.declared.reader.Reader.{Reader}
use Rattle.fac_parse.specs.declared.form_parts.Taking.{Taking}
use Rattle.fac_parse.specs.declared.run.Run.{Run}
use Rattle.fac_effect.specs.declared.spelling.Spelling.{Spelling}
use Rattle.fac_parse.specs.inner.Reader.{top, begins, is_semi, grow, begin_or_add, end_or_add, top_step, items_step, row_items, in_state, begun_at, contexts_of, half_of, held_of, open_of, state_of, Goes, Holds}

pub held_at_top : (run : Run) (r : Reader) (s : Spelling) (t : Token) (answer : Result Bool Memory) → r.at ≡ at.Top → begins s ≡ None → Holds (grow (contexts_of run.levels) (half_of run) s t) run r.run answer → Goes (top_step r.forms run.elements (contexts_of run.levels) (half_of run) s t) (state_of r) answer
held_at_top run r s t answer e none h =
    let half = half_of run in
    subst (λ (a : At). Goes (top_step r.forms run.elements (contexts_of run.levels) half s t) (in_state r.forms (open_of a r)) answer) (sym e)
    (subst (λ (o : Option FormKind). Goes (begin_or_add r.forms run.elements (contexts_of run.levels) half o s t) (in_state r.forms (held_of top r.run)) answer) (sym none) (h top r.forms))

pub held_in_items : (head : Head) (k : Taking) (run : Run) (r : Reader) (s : Spelling) (t : Token) (answer : Result Bool Memory) → r.at ≡ at.Items head k → is_semi s ≡ false → Holds (grow (contexts_of run.levels) (half_of run) s t) run r.run answer → Goes (items_step r.forms (begun_at head r.parts) k run.elements (contexts_of run.levels) (half_of run) s t) (state_of r) answer
held_in_items head k run r s t answer e none h =
    let b = begun_at head r.parts in
    let half = half_of run in
    subst (λ (a : At). Goes (items_step r.forms b k run.elements (contexts_of run.levels) half s t) (in_state r.forms (open_of a r)) answer) (sym e)
    (subst (λ (o : Bool). Goes (end_or_add r.forms b k run.elements (contexts_of run.levels) half o s t) (in_state r.forms (held_of (row_items b k) r.run)) answer) (sym none) (h (row_items b k) r.forms))
