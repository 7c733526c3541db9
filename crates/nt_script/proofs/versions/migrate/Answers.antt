use Rattle.nt_script.proofs.Migrating.{migrated_sound}
use Rattle.nt_script.proofs.versions.migrate.Goals as goal

pub returns-clause-sound : goal.returns-clause-sound
returns-clause-sound c = migrated_sound c.args.input
