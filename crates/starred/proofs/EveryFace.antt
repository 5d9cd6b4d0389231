-- Each face is as it is said.
use mathlib.Core.Path.{refl}
use Rattle.model.specs.Compose.{initial}
use Rattle.model.specs.Information.{row_table, values_read, index_read, indexes_read, face, shows, packed_face, face_in, alone, shows_on}
use Rattle.starred.specs.Faces.{FacesPinned}

pub every_face : FacesPinned
unfolding initial row_table values_read index_read indexes_read face shows packed_face face_in alone shows_on
every_face = record {
  rows_first = refl;
  rows_second = refl;
  values_chain = refl;
  values_late = refl;
  values_impossible = refl;
  index_second = refl;
  index_prompt = refl;
  along = refl;
  others_heard = refl;
  face_second = refl;
  shown_first = refl;
  in_row = refl;
  by_itself = refl;
  packed = refl;
  rows_P = refl;
  rows_single = refl;
  read_P = refl;
  read_single = refl;
  shown_P = refl;
  shown_single = refl;
  desk_P = refl;
  desk_single = refl;
  desk_late = refl;
}
