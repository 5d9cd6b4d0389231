-- From the last place to the first.
use Rattle.ties.proofs.FollowersBack.{back_none, back_more}
use Rattle.ties.proofs.fill_followers.Goals as goal

pub loop-k-init : goal.loop-k-init
loop-k-init c = back_none c.args.n c.args.leaders.now c.args.followers.now c.requires.followers_len.0

pub loop-k-preserved : goal.loop-k-preserved
loop-k-preserved c =
    let l = c.requires.followers_len in
    back_more c.args.n c.args.leaders.now l.1 l.2 c.requires.leaders_inside c.loop-k.followers c.loop-k.last c.loop-k.k c.loop-k-test.true c.loop-k.invariant
