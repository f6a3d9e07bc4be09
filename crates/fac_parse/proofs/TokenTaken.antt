-- A token that is taken where a row has an effect or items.
use Rattle.std.proofs.Common.{◌≡◌, Bool, Result, sym, subst}
use Rattle.fac_base.specs.declared.memory.Memory.{Memory}
use Rattle.fac_source.specs.declared.token.Token.{Token}
use Rattle.fac_effect.specs.declared.spelling.Spelling.{Spelling}
use Rattle.fac_effect.specs.Spellings.{token_spelling}
use Rattle.fac_parse.specs.declared.reader.At.{At}
use Rattle.fac_parse.specs.declared.reader.At.TheVariants as at
use Rattle.fac_parse.specs.declared.reader.Head.{Head}
use Rattle.fac_parse.specs.declared.reader.Reader.{Reader}
use Rattle.fac_parse.specs.declared.form_parts.Taking.{Taking}
use Rattle.fac_parse.specs.inner.Reader.{effect_step, items_step, open_step, step, begun_at, contexts_of, half_of, open_of, state_of, Goes}

pub effect_token : (head : Head) (k : Taking) (r now : Reader) (s : Spelling) (t : Token) (answer : Result Bool Memory) → r.at ≡ at.Effect head k → s ≡ token_spelling t.kind → Goes (effect_step r.forms (begun_at head r.parts) k r.names r.effect s t) (state_of now) answer → Goes (step (state_of r) t) (state_of now) answer
effect_token head k r now s t answer is spelled h =
    subst (λ (a : At). Goes (open_step r.forms (open_of a r) (token_spelling t.kind) t) (state_of now) answer) (sym is)
    (subst (λ (x : Spelling). Goes (effect_step r.forms (begun_at head r.parts) k r.names r.effect x t) (state_of now) answer) spelled h)

pub items_token : (head : Head) (k : Taking) (r now : Reader) (s : Spelling) (t : Token) (answer : Result Bool Memory) → r.at ≡ at.Items head k → s ≡ token_spelling t.kind → Goes (items_step r.forms (begun_at head r.parts) k r.run.elements (contexts_of r.run.levels) (half_of r.run) s t) (state_of now) answer → Goes (step (state_of r) t) (state_of now) answer
items_token head k r now s t answer is spelled h =
    subst (λ (a : At). Goes (open_step r.forms (open_of a r) (token_spelling t.kind) t) (state_of now) answer) (sym is)
    (subst (λ (x : Spelling). Goes (items_step r.forms (begun_at head r.parts) k r.run.elements (contexts_of r.run.levels) (half_of r.run) x t) (state_of now) answer) spelled h)
