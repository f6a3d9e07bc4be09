use Rattle.std.proofs.Common.{false, ap, ◌∙◌}
use Rattle.fac_lang.specs.Phrases.{end, then, word}
use Rattle.fac_lang.specs.declared.program.Sort.TheVariants.{Body as body}
use Rattle.fac_source.specs.Toks.{number}
use Rattle.fac_source.specs.declared.tok.Ref.{Ref}
use Rattle.fac_items.specs.FromElements.{tok}
use Rattle.fac_items.specs.Items.{ref}
use Rattle.fac_endings.specs.Words.{no_effect}
use Rattle.fac_endings.specs.declared.draft.Late.TheVariants.{Maker as maker}
use Rattle.fac_names.proofs.ReadingLemmas.{maker_taken, on_ok, told_parts}
use Rattle.fac_names.proofs.bodies.maker.Goals as goal

pub returns : goal.returns
returns c =
    let mid = c.own.new.so_far in
    let place = c.args.name.now.place in
    let class = c.in_ok-class.class in
    let named = c.in_ok-class.ensures.name in
    let told = c.late_body.ensures in
    on_ok c.tell.result
    (λ more. maker_taken c.args.so_far.now mid (tok c.args.name.now) (tok c.args.class.now) c.in_ok-number.number c.in_ok-body.body c.refer.new.first c.tell.new.self c.in_ok-number.ensures c.in_ok-class.ensures.first
    (c.in_ok-body.ensures
    ∙ ap (λ n. then (word n) place (then (word c.boa_number.result) place end)) (c.number_of.ensures ∙ ap (λ (r : Ref). number r.word) named)
    ∙ ap (λ n. then (word (number (ref mid.scope (tok c.args.class.now)).word)) place (then (word n) place end)) c.boa_number.ensures)
    (told_parts c.late_body.result (body c.in_ok-body.body) no_effect false false (maker (ref mid.scope (tok c.args.class.now))) c.in_ok-number.number mid.drafts c.tell.new.self told.sort told.effect told.inline told.recursive (told.late ∙ ap maker (c.in_ok-boxed.ensures ∙ named)) more))
    c.tell.ensures
