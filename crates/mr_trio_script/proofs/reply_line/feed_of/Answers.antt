use Rattle.mr_trio_script.proofs.ReplyFeeds.{feed_found}
use Rattle.mr_trio_script.proofs.reply_line.feed_of.Goals as goal

pub returns : goal.returns
returns c = feed_found c.args.bytes.now c.feed_place.result c.feed_place.ensures
