-- `extents::chunk` meets its contract: the chunks are stored, and a ladder is raised over them. Assumes nothing.
use Rattle.extents.proofs.Raising.{chunked-over}
use Rattle.extents.proofs.chunk.Goals as goal

pub returns : goal.returns
returns c =
    chunked-over c.fill_chunks.ensures c.raise.ensures
