use Rattle.scroll.proofs.leb128.bytewise.plain_sleb.Goals as goal

pub signed-requires : goal.signed-requires
signed-requires c = (c.args.src.now, c.groups_bytewise.ensures.read)
