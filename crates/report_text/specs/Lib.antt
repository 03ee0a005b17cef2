pub mod BadFiles
