use Rattle.std.proofs.lemmas.Result.{IfOk-weaker}
use Rattle.fac_lang.proofs.SourcePrograms.{session_of_whole}
use Rattle.fac_generic.proofs.WholeMethods.{whole_has}
use Rattle.fac_emit.specs.ProgramCode.{IsPlain}
use Rattle.fac_emit.proofs.AgreeingTables.{agrees}
use Rattle.fac_emit.proofs.CodedItems.{arrays_coded}
use Rattle.fac_emit.proofs.ClosedTables.{can_be_built, has_methods}
use Rattle.fac_emit.proofs.PlainStands.{plain_code}
use Rattle.fac_emit.proofs.compiler.compile.Goals as goal

pub plain_image-requires-clause-coded : goal.plain_image-requires-clause-coded
plain_image-requires-clause-coded g c κs within =
    let given = c.requires in
    arrays_coded given.0 c.args.closed.now given.1.0

pub plain_image-requires-clause-classes : goal.plain_image-requires-clause-classes
plain_image-requires-clause-classes g c κs within =
    let given = c.requires in
    can_be_built given.0 c.args.closed.now given.1.0 given.1.1

pub plain_image-requires-clause-methods : goal.plain_image-requires-clause-methods
plain_image-requires-clause-methods g c κs within =
    let given = c.requires in
    has_methods given.0 c.args.closed.now given.1.0 given.1.1

pub returns-clause-agrees : goal.returns-clause-agrees
returns-clause-agrees g c =
    let closed = c.args.closed.now in
    let heights = c.args.heights.now in
    IfOk-weaker c.plain_image.result (IsPlain closed heights) _ (λ image plain P callable_height closes whole effects. agrees P closed heights image callable_height whole closes plain effects) c.plain_image.ensures.plain

pub returns-clause-stands : goal.returns-clause-stands
returns-clause-stands g c =
    let closed = c.args.closed.now in
    let laws = c.methods_are_lawful.ensures in
    IfOk-weaker c.plain_image.result (IsPlain closed c.args.heights.now) _ (λ image plain P closes whole. plain_code P closed c.args.heights.now image (session_of_whole P whole) whole (laws P (whole_has P whole)) closes plain) c.plain_image.ensures.plain
