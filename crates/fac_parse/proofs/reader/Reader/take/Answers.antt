use Rattle.fac_parse.proofs.TokenTaken.{effect_token, items_token}
use Rattle.fac_parse.proofs.reader.Reader.take.Goals as goal

pub returns-in-Effect : goal.returns-in-Effect
returns-in-Effect c =
    effect_token c.in-Effect.head c.in-Effect.taking c.args.self.now c.take_effect.new.self c.classify-spelling.result c.args.token c.take_effect.result c.in-Effect.is c.classify-spelling.ensures c.take_effect.ensures

pub returns-in-Items : goal.returns-in-Items
returns-in-Items c =
    items_token c.in-Items.head c.in-Items.taking c.args.self.now c.take_in_items.new.self c.classify-spelling.result c.args.token c.take_in_items.result c.in-Items.is c.classify-spelling.ensures c.take_in_items.ensures
