-- What the proofs of several functions use.
mod StepsFound
mod StepsWritten
