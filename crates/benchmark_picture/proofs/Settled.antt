-- Any two outcomes that the promise of `benchmark_picture` allows are equal.
use Rattle.condition.proofs.Settled.{settled}
use Rattle.benchmark_picture.specs.Theorems.{BenchmarkPictureSettled}

pub benchmark_picture_settled : BenchmarkPictureSettled
benchmark_picture_settled bytes digits rom dark out number number' left left' p q = (settled p.answer q.answer, settled p.buffer q.buffer)
