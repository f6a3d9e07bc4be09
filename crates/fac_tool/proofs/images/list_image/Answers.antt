use Rattle.fac_io.specs.Told.{TookNothing-same}
use Rattle.fac_tool.specs.Executed.{not_decoded}
use Rattle.fac_tool.specs.SeenObjects.{input_seen, output_seen}
use Rattle.fac_tool.proofs.InputLemmas.{input_unread, still_unread}
use Rattle.fac_tool.proofs.ListingLemmas.{lists_unread}
use Rattle.fac_tool.proofs.images.list_image.Goals as goal

pub returns-in-Ok-clause-ends : goal.returns-in-Ok-clause-ends
returns-in-Ok-clause-ends g c =
    let old = c.args.channels.now in
    let new = c.write_listing.new.channels in
    let seen = input_seen old new in
    lists_unread c.args.bytes.now c.in-Ok.image (output_seen old new) c.write_listing.result seen (input_unread old new c.write_listing.ensures.unread) c.in-Ok.ensures (λ input. c.write_listing.ensures.ends input seen)

pub returns-in-Err-clause-ends : goal.returns-in-Err-clause-ends
returns-in-Err-clause-ends g c = not_decoded (record { why = c.in-Err.ensures; out_is = TookNothing-same _ }) (still_unread c.args.channels.now)
