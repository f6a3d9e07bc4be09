use Rattle.std.proofs.Common.{List, refl, ap, ◌∙◌}
use Rattle.fac_source.specs.declared.tree.Form.{Form}
use Rattle.fac_parse.specs.declared.parser.Parser.{Parser}
use Rattle.fac_parse.specs.inner.Reader.{Open, in_state, open_of}
use Rattle.fac_parse.proofs.ParseLemmas.{hands_out, open_kept}
use Rattle.fac_parse.proofs.parser.Parser.hand_out.Goals as goal

pub returns-clause-hands : goal.returns-clause-hands
returns-clause-hands c = λ tokens before h.
    let p = c.args.self.now in
    let r = p.reader in
    let none = c.replace.ensures.after ∙ c.new.ensures in
    let now : Parser = record p { reader = record r { forms = c.replace.new.dest } } in
    let state = ap (λ (o : Open). in_state c.replace.new.dest o) (open_kept r.at r c.replace.new.dest) ∙ ap (λ (fs : List Form). in_state fs (open_of r.at r)) none in
    hands_out tokens before c.replace.result p now c.replace.ensures.value state refl refl h
