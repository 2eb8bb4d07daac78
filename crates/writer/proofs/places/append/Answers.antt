use mathlib.Core.Path.{refl}
use Rattle.writer.proofs.PlaceLaws.{put_longer}
use Rattle.writer.proofs.places.append.Goals as goal

pub cover-requires : goal.cover-requires
cover-requires c = put_longer c.requires.ready _ c.requires.fits c.copy.ensures refl c.requires.lone c.requires.low
