use Rattle.std.proofs.Common.{[], ◌∷◌, refl, subst}
use Rattle.mr_file.specs.LogFile.{AppendsSome}
use Rattle.mr_loop.specs.Rows.{appends, fails}
use Rattle.mr_loop.specs.Hosts.{moment_in}
use Rattle.mr_loop.proofs.Runs.{broke_one, still_here, still_one}
use Rattle.mr_loop.proofs.Supplying.{tells_none}
use Rattle.mr_loop.proofs.host.Host.commit.Goals as goal

pub returns-then-is_empty-clause-went : goal.returns-then-is_empty-clause-went
returns-then-is_empty-clause-went g c = still_here (moment_in g.S.Source.drawn c.args.self.now) _

pub returns-in-Ok-clause-went : goal.returns-in-Ok-clause-went
returns-in-Ok-clause-went g c = let moment = moment_in g.S.Source.drawn c.args.self.now in still_one (appends c.batch-2.result.now) moment moment refl refl refl refl refl refl refl refl (λ ids. refl) (record {
  texts_are = c.batch-2.ensures;
  written = c.in-Ok.ensures.ok;
  synced = c.in-Ok.ensures.synced;
  own = c.clear_batch.ensures;
  wire = refl;
  failed = refl;
  node = refl;
}) refl

pub returns-in-Err-clause-went : goal.returns-in-Err-clause-went
returns-in-Err-clause-went g c = broke_one fails (c.args.self.now.moment.fresh ∷ []) refl refl (tells_none refl) (record {
  written = subst (λ b. AppendsSome (g.F.LogFile.told c.args.self.now.log.now.file) (g.F.LogFile.told c.append.new.self.file) b) c.batch-2.ensures c.in-Err.ensures.err;
  own = refl;
  wire = refl;
  failed = refl;
  node = refl;
})
