pub mod MessagesWait
