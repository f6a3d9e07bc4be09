use Rattle.std.proofs.Common.{◌≡◌, ◌∙◌, ap, map, refl, List}
use Rattle.fac_endings.specs.declared.draft.Draft.{Draft}
use Rattle.fac_names.specs.Resolution.{settled_draft}
use Rattle.fac_names.specs.Resolved.{as_earlier, drafts_of}
use Rattle.fac_names.specs.Forms.{changed}
use Rattle.fac_names.proofs.text_resolver.begun.Goals as goal

pub returns : goal.returns
returns c =
    let words : c.retire.new.self ≡ drafts_of c.args.known.program = c.retire.ensures ∙ ap (changed as_earlier c.args.known.program.top) (c.in_ok-drafts.ensures ∙ ap (map settled_draft) c.into_vec.ensures) in
    rw (words, c.new.ensures, c.new-2.ensures.items, c.new-3.ensures.items) refl
